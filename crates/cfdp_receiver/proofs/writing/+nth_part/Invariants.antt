use Rattle.cfdp_receiver.proofs.writing.+nth_part.Given as goal

abbrev pub decreases-nth_part : goal.decreases-nth_part
decreases-nth_part l = l.number
