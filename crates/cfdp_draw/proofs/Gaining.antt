-- One mark more in the lane of its transaction.
--     bare_stays                  a lane without marks after the others changes the marks of none
--     stays                       one that is added changes the marks of none
--     this_moment, one_more       the next mark is at this moment;  what is given of a lane's marks after one more
--     unmarked, same_marks_shown  a lane that has no mark more
--     gained                      a lane that has one mark more
use Rattle.std.proofs.Common.{◌≡◌, ◌≢◌, ◌∙◌, refl, sym, ap, ℕ, ◌<◌, List, [], ◌∷◌, ◌++◌, map, length, Option, Some, subst, vec_items, option_map, slice_get, slice_set, slice_index_or, inl, inr, Bool, true, false, ◌==◌, if◌then◌else◌, arith}
use Rattle.std.proofs.lemmas.List.{length-map, map-append, map-set, get_or-set_same, get_or-set_other}
use Rattle.std.proofs.lemmas.Option.{get_or_from_slice_get, slice_get-get_or, slice_get-map, slice_get_within}
use Rattle.std.proofs.Math.Seq.{map-set_same}
use Rattle.cfdp_status.specs.declared.transaction.TransactionId.{TransactionId}
use Rattle.cfdp_draw.specs.Collecting.{Gains, HasLane, Shown, ids_of, marks_at, lane_marks, shown_of}
use Rattle.cfdp_draw.specs.code.Collecting.{next_at_by, next_of}
use Rattle.cfdp_draw.specs.declared.axis.AxisPosition.{AxisPosition}
use Rattle.cfdp_draw.specs.declared.chart.Lane.{Lane}
use Rattle.cfdp_draw.specs.declared.chart.Mark.{Mark}
use Rattle.cfdp_draw.specs.declared.mark_kinds.Direction.{Direction}

pub bare_stays : {A : Type 0} (xs : List A) (d : A) (k : ℕ) → slice_index_or (xs ++ d ∷ []) k d ≡ slice_index_or xs k d
bare_stays [] d k = grind arith
bare_stays (x ∷ xs) d k = grind (arith, bare_stays xs d)

pub stays : (old laned : List Lane) (id : Option TransactionId) → HasLane old laned id → (k : ℕ) → marks_at laned k ≡ marks_at old k
stays old laned id (inl same) k = ap (λ l. marks_at l k) same
stays old laned id (inr added) k =
    let bare : lane_marks added.lane ≡ [] = ap (λ l. map shown_of l) added.bare in
    let all_lane_marks : map lane_marks laned ≡ map lane_marks old ++ [] ∷ [] =
    ap (λ l. map lane_marks l) added.is ∙ map-append lane_marks old (added.lane ∷ []) ∙ ap (λ r. map lane_marks old ++ r ∷ []) bare in
    ap (λ r. slice_index_or r k []) all_lane_marks ∙ bare_stays (map lane_marks old) [] k

pub gained :
    (old laned : List Lane) (index : ℕ) (lane next : Lane) (id : Option TransactionId) (shown : Shown) → HasLane old laned id →
    slice_get (ids_of laned) index ≡ Some id → lane ≡ slice_index_or laned index lane → next.id ≡ lane.id → lane_marks next ≡ lane_marks lane ++ shown ∷ [] →
    Gains old (slice_set laned index next) index id shown
gained old laned index lane next id shown has of value named more =
    let long : length (map lane_marks laned) ≡ length laned = length-map laned lane_marks in
    let within : index < length laned = subst (λ n. index < n) (length-map laned (λ (l : Lane). l.id)) (slice_get_within (ids_of laned) index id of) in
    let at : slice_get laned index ≡ Some lane = slice_get-get_or laned index lane within ∙ ap (λ (l : Lane). Some l) (sym value) in
    let all_lane_marks : map lane_marks (slice_set laned index next)
    ≡ slice_set (map lane_marks laned) index (lane_marks next) = map-set lane_marks laned index next in
    let same : (k : ℕ) → marks_at laned k ≡ marks_at old k = stays old laned id has in
    let here_marks : marks_at laned index ≡ lane_marks lane =
    get_or_from_slice_get (map lane_marks laned) index (lane_marks lane) [] (slice_get-map lane_marks laned index ∙ ap (λ o. option_map lane_marks o) at) in
    let one : marks_at (slice_set laned index next) index ≡ marks_at old index ++ shown ∷ [] =
    ap (λ r. slice_index_or r index []) all_lane_marks
    ∙ get_or-set_same (map lane_marks laned) index (lane_marks next) [] (subst (λ n. index < n) (sym long) within)
    ∙ more ∙ ap (λ r. r ++ shown ∷ []) (sym here_marks ∙ same index) in
    let others : (k : ℕ) → k ≢ index → marks_at (slice_set laned index next) k ≡ marks_at old k =
    λ k other. ap (λ r. slice_index_or r k []) all_lane_marks ∙ get_or-set_other (map lane_marks laned) index k (lane_marks next) [] other ∙ same k in
    let ids : ids_of (slice_set laned index next) ≡ ids_of laned =
    map-set_same (λ (l : Lane). l.id) laned index next lane (named ∙ ap (λ (l : Lane). l.id) value) in
    record { of = ap (λ l. slice_get l index) ids ∙ of; one = one; others = others }

pub this_moment : (lane : Lane) (direction : Direction) (here : AxisPosition) → (next_of lane direction here).moments ≡ here.moments
unfolding next_of
this_moment lane direction here =
    let kept : (b : Bool) → ((next_at_by direction lane).moments == here.moments) ≡ b → (if b then next_at_by direction lane else here).moments ≡ here.moments =
    λ b is. elim b as (λ v. ((next_at_by direction lane).moments == here.moments) ≡ v → (if v then next_at_by direction lane else here).moments ≡ here.moments)
    [ true ↦ λ same. grind arith | false ↦ λ other. refl ] is in
    kept ((next_at_by direction lane).moments == here.moments) refl

pub one_more :
    (lane next : Lane) (mark : Mark) (here : AxisPosition) → next.marks.items ≡ lane.marks.items ++ mark ∷ [] → mark.at.moments ≡ here.moments →
    lane_marks next ≡ lane_marks lane ++ record { moment = here.moments; kind = mark.kind; direction = mark.direction; words = mark.words.items } ∷ []
one_more lane next mark here is at =
    ap (λ l. map shown_of l) is ∙ map-append shown_of lane.marks.items (mark ∷ [])
    ∙ ap (λ m. lane_marks lane ++ record { moment = m; kind = mark.kind; direction = mark.direction; words = mark.words.items } ∷ []) at

pub unmarked :
    (old laned : List Lane) (index : ℕ) (lane next : Lane) (id : Option TransactionId) → HasLane old laned id → lane ≡ slice_index_or laned index lane →
    lane_marks next ≡ lane_marks lane → (k : ℕ) → marks_at (slice_set laned index next) k ≡ marks_at old k
unmarked old laned index lane next id has value same k =
    ap (λ all_lane_marks. slice_index_or all_lane_marks k []) (map-set_same lane_marks laned index next lane (same ∙ ap lane_marks value))
    ∙ stays old laned id has k

pub same_marks_shown : (lane next : Lane) → next.marks ≡ lane.marks → lane_marks next ≡ lane_marks lane
same_marks_shown lane next same = ap (λ marks. map shown_of (vec_items marks)) same
