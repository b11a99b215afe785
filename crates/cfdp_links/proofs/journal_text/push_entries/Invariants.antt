use Rattle.std.proofs.Common.{◌≡◌, ◌++◌, drop}
use Rattle.std.specs.List.{AllByRecursion}
use Rattle.cfdp_transactions.specs.Writable.{FitsReply}
use Rattle.cfdp_engine.specs.Journal.{replies_of}
use Rattle.cfdp_links.specs.JournalTexts.{entry_texts}
use Rattle.cfdp_links.proofs.journal_text.push_entries.Given as goal

abbrev pub invariant-loop-index : goal.invariant-loop-index
invariant-loop-index l = record {
  fits : AllByRecursion FitsReply (replies_of (drop l.index l.entries));
  writes : l.text.items ++ entry_texts l.index (drop l.index l.entries) ≡ l.initial.text.items ++ entry_texts 0 l.entries;
}
