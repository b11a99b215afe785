-- What a line `mib` sets is what a receiver takes.
--     Fits mib            each value is in its range, as far as a receiver asks for it
--     fits_none           so no fault is found in it;  none_fits: the other way
--     command_fits        a line leaves settings that a receiver takes, where those before it are
use Rattle.std.proofs.Common.{◌≡◌, ℕ, ◌+◌, ◌≤◌, true, false, List, [], ◌∷◌, take, drop, refl, ap, sym, ◌∙◌, subst, arith, inl, inr}
use Rattle.std.specs.Prelude.{Option, Some, None, Result, Ok, Err, ok_or, nat_le, nat_lt, ◌==◌, ◌&&◌, ◌||◌, not, if◌then◌else◌, position, bytes_eq, codes, option_map}
use Rattle.std.proofs.lemmas.Bool.{cases_Bool, not-false, leb-true, le-ltb, ne_eqb, and_parts, or_parts}
use Rattle.cfdp_paths.specs.Paths.{path_of}
use Rattle.cfdp_tlv.specs.Reading.{◌>>=◌}
use Rattle.cfdp_lines.specs.Lines.{is_overlong, is_comment}
use Rattle.cfdp_lines.specs.Words.{number_of, numbers_of, words_of}
use Rattle.cfdp_plans.specs.Names.{name_in, path_spelled}
use Rattle.cfdp_receiver.specs.StateMachine.{mib_fault, lacks_time, is_no_time, is_limit}
use Rattle.cfdp_receiver.specs.declared.mib.Mib.{Mib}
use Rattle.cfdp_receiver.specs.declared.mib.MibFault.TheVariants as faults
use Rattle.cfdp_run.specs.Commands.{Nothing, LineMeaning, Settings, Configure, Protect, PutDirectory, PutFile, Receive, Cancel, SetClock, Get, Gaps, Phase, ListAll, Expect, End, saying, is_equals, valued, setting_at, setting, settings, settings_in, config_in, path_or_wrong, only_path, only_name, octets_spelled, before_slash, directory_or_file, content_in, put_in, input_in, at_in, line_in, says_alone, says, is_playing, in_time, begun_by, texts_say, meaning_in}
use Rattle.cfdp_run.specs.Settings.{key_of, within_by, interval_of, limit_of, longest_of, keep_alive_of, nak_mode_of, yes_of, handler_of, with_value}
use Rattle.cfdp_run.specs.code.Stages.{IsFit}
use Rattle.cfdp_run.specs.Words.{is_of_head, word_of}
use Rattle.cfdp_run.specs.declared.run_commands.HeadProgress.{HeadProgress}
use Rattle.cfdp_run.specs.declared.settings.Key.{Key}
use Rattle.cfdp_run.specs.declared.settings.Key.TheVariants as key
use Rattle.cfdp_run.specs.declared.words.FirstWord.{FirstWord}
use Rattle.cfdp_run.specs.declared.words.FirstWord.TheVariants as word
use Rattle.cfdp_run.specs.declared.wrong.Wrong.{Wrong}
use Rattle.cfdp_run.specs.declared.wrong.Wrong.TheVariants as wrongs
use Rattle.cfdp_transactions.proofs.Options.{passed_over}

pub record Fits (mib : Mib) : Type 0 where
  pub ack : (mib.ack.interval == 0) ≡ false
  pub nak : (mib.nak.interval == 0) ≡ false
  pub check : (mib.check.interval == 0) ≡ false
  pub inactivity : (mib.inactivity.interval == 0) ≡ false
  pub alive : is_no_time mib.keep_alive ≡ false
  pub ahead : is_no_time mib.most_ahead ≡ false
  pub ack_limit : is_limit mib.ack.limit ≡ true
  pub nak_limit : is_limit mib.nak.limit ≡ true
  pub longest : nat_lt mib.longest_nak 72 ≡ false

pub fits_none : (mib : Mib) → Fits mib → mib_fault mib ≡ None
fits_none mib f = rw (f.ack, f.nak, f.check, f.inactivity, f.alive, f.ahead, f.ack_limit, f.nak_limit, f.longest) refl

pub none_fits : (mib : Mib) → mib_fault mib ≡ None → Fits mib
none_fits mib none =
    let one = passed_over (lacks_time mib) faults.Interval _ none in
    let two = passed_over (not (is_limit mib.ack.limit && is_limit mib.nak.limit)) faults.Limit _ one.1 in
    let three = passed_over (nat_lt mib.longest_nak 72) faults.LongestNak None two.1 in
    let limits = and_parts _ _ (not-false _ two.0) in
    let g = or_parts
    ((mib.ack.interval == 0) || (mib.nak.interval == 0) || (mib.check.interval == 0) || (mib.inactivity.interval == 0) || is_no_time mib.keep_alive)
    (is_no_time mib.most_ahead) one.0 in
    let e = or_parts ((mib.ack.interval == 0) || (mib.nak.interval == 0) || (mib.check.interval == 0) || (mib.inactivity.interval == 0))
    (is_no_time mib.keep_alive) g.0 in
    let d = or_parts ((mib.ack.interval == 0) || (mib.nak.interval == 0) || (mib.check.interval == 0)) (mib.inactivity.interval == 0) e.0 in
    let c = or_parts ((mib.ack.interval == 0) || (mib.nak.interval == 0)) (mib.check.interval == 0) d.0 in
    let b = or_parts (mib.ack.interval == 0) (mib.nak.interval == 0) c.0 in
    record { ack = b.0; nak = b.1; check = c.1; inactivity = d.1; alive = e.1; ahead = g.1; ack_limit = limits.0; nak_limit = limits.1; longest = three.0 }

-- ---- one setting

mapped : {A B : Type 0} (f : A → B) (o : Option A) (b : B) → option_map f o ≡ Some b → (a : A) × (o ≡ Some a) × (f a ≡ b)
mapped f None b e = absurd cc
mapped f (Some a) b e = (a, refl, cc)

record InRange (low high n : ℕ) : Type 0 where
  pub least : nat_le low n ≡ true
  pub most : nat_le n high ≡ true

in_range : (low high : ℕ) (o : Option ℕ) (n : ℕ) → within_by low high o ≡ Some n → InRange low high n
in_range low high None n e = absurd cc
in_range low high (Some m) n e =
    elim (cases_Bool (nat_le low m && nat_le m high)) [
      | inl is ↦
          let parts : (nat_le low m ≡ true) × (nat_le m high ≡ true) = and_parts _ _ is in
          let same : Some m ≡ Some n = sym (ap (λ b. if b then Some m else None) is) ∙ e in
          let equal : m ≡ n = cc in
          record { least = ap (nat_le low) (sym equal) ∙ parts.0; most = ap (λ k. nat_le k high) (sym equal) ∙ parts.1 }
      | inr is ↦ absurd (let none : None ≡ Some n = sym (ap (λ b. if b then Some m else None) is) ∙ e in cc)
    ]

some_time : (n : ℕ) → nat_le 1 n ≡ true → (n == 0) ≡ false
some_time n e = ne_eqb n 0 (λ zero. let some : 1 ≤ n = leb-true 1 n e in absurd (omega (arith, some, zero)))

some_alive : (text : List ℕ) (alive : Option ℕ) → keep_alive_of text ≡ Some alive → is_no_time alive ≡ false
some_alive text alive e =
    elim (cases_Bool (bytes_eq text (codes "none"))) [
      | inl is ↦
          let same : Some None ≡ Some alive = sym (ap (λ b. if b then Some None else option_map Some (interval_of text)) is) ∙ e in
          let equal : None ≡ alive = cc in
          ap is_no_time (sym equal)
      | inr is ↦
          let m = mapped Some (interval_of text) alive (sym (ap (λ b. if b then Some None else option_map Some (interval_of text)) is) ∙ e) in
          ap is_no_time (sym m.2) ∙ some_time m.0 (in_range 1 4294967295 (number_of text) m.0 m.1).least
    ]

with_value-fits : (mib : Mib) (known : Key) (text : List ℕ) (new : Mib) → Fits mib → with_value mib known text ≡ Some new → Fits new
with_value-fits mib key.AckInterval text new f e =
    let m = mapped _ (interval_of text) new e in
    subst Fits m.2 (record {
      ack = some_time m.0 (in_range 1 4294967295 (number_of text) m.0 m.1).least;
      nak = f.nak;
      check = f.check;
      inactivity = f.inactivity;
      alive = f.alive;
      ahead = f.ahead;
      ack_limit = f.ack_limit;
      nak_limit = f.nak_limit;
      longest = f.longest;
    })
with_value-fits mib key.AckLimit text new f e =
    let m = mapped _ (limit_of text) new e in
    let r = in_range 1 1000 (number_of text) m.0 m.1 in
    subst Fits m.2 (record {
      ack = f.ack;
      nak = f.nak;
      check = f.check;
      inactivity = f.inactivity;
      alive = f.alive;
      ahead = f.ahead;
      ack_limit = rw (r.least, r.most) refl;
      nak_limit = f.nak_limit;
      longest = f.longest;
    })
with_value-fits mib key.OnAckLimit text new f e =
    let m = mapped _ (handler_of text) new e in
    subst Fits m.2 (record {
      ack = f.ack;
      nak = f.nak;
      check = f.check;
      inactivity = f.inactivity;
      alive = f.alive;
      ahead = f.ahead;
      ack_limit = f.ack_limit;
      nak_limit = f.nak_limit;
      longest = f.longest;
    })
with_value-fits mib key.NakInterval text new f e =
    let m = mapped _ (interval_of text) new e in
    subst Fits m.2 (record {
      ack = f.ack;
      nak = some_time m.0 (in_range 1 4294967295 (number_of text) m.0 m.1).least;
      check = f.check;
      inactivity = f.inactivity;
      alive = f.alive;
      ahead = f.ahead;
      ack_limit = f.ack_limit;
      nak_limit = f.nak_limit;
      longest = f.longest;
    })
with_value-fits mib key.NakLimit text new f e =
    let m = mapped _ (limit_of text) new e in
    let r = in_range 1 1000 (number_of text) m.0 m.1 in
    subst Fits m.2 (record {
      ack = f.ack;
      nak = f.nak;
      check = f.check;
      inactivity = f.inactivity;
      alive = f.alive;
      ahead = f.ahead;
      ack_limit = f.ack_limit;
      nak_limit = rw (r.least, r.most) refl;
      longest = f.longest;
    })
with_value-fits mib key.OnNakLimit text new f e =
    let m = mapped _ (handler_of text) new e in
    subst Fits m.2 (record {
      ack = f.ack;
      nak = f.nak;
      check = f.check;
      inactivity = f.inactivity;
      alive = f.alive;
      ahead = f.ahead;
      ack_limit = f.ack_limit;
      nak_limit = f.nak_limit;
      longest = f.longest;
    })
with_value-fits mib key.CheckInterval text new f e =
    let m = mapped _ (interval_of text) new e in
    subst Fits m.2 (record {
      ack = f.ack;
      nak = f.nak;
      check = some_time m.0 (in_range 1 4294967295 (number_of text) m.0 m.1).least;
      inactivity = f.inactivity;
      alive = f.alive;
      ahead = f.ahead;
      ack_limit = f.ack_limit;
      nak_limit = f.nak_limit;
      longest = f.longest;
    })
with_value-fits mib key.OnCheckLimit text new f e =
    let m = mapped _ (handler_of text) new e in
    subst Fits m.2 (record {
      ack = f.ack;
      nak = f.nak;
      check = f.check;
      inactivity = f.inactivity;
      alive = f.alive;
      ahead = f.ahead;
      ack_limit = f.ack_limit;
      nak_limit = f.nak_limit;
      longest = f.longest;
    })
with_value-fits mib key.Inactivity text new f e =
    let m = mapped _ (interval_of text) new e in
    subst Fits m.2 (record {
      ack = f.ack;
      nak = f.nak;
      check = f.check;
      inactivity = some_time m.0 (in_range 1 4294967295 (number_of text) m.0 m.1).least;
      alive = f.alive;
      ahead = f.ahead;
      ack_limit = f.ack_limit;
      nak_limit = f.nak_limit;
      longest = f.longest;
    })
with_value-fits mib key.OnInactivity text new f e =
    let m = mapped _ (handler_of text) new e in
    subst Fits m.2 (record {
      ack = f.ack;
      nak = f.nak;
      check = f.check;
      inactivity = f.inactivity;
      alive = f.alive;
      ahead = f.ahead;
      ack_limit = f.ack_limit;
      nak_limit = f.nak_limit;
      longest = f.longest;
    })
with_value-fits mib key.KeepAlive text new f e =
    let m = mapped _ (keep_alive_of text) new e in
    subst Fits m.2 (record {
      ack = f.ack;
      nak = f.nak;
      check = f.check;
      inactivity = f.inactivity;
      alive = some_alive text m.0 m.1;
      ahead = f.ahead;
      ack_limit = f.ack_limit;
      nak_limit = f.nak_limit;
      longest = f.longest;
    })
with_value-fits mib key.Immediate text new f e =
    let m = mapped _ (nak_mode_of text) new e in
    subst Fits m.2 (record {
      ack = f.ack;
      nak = f.nak;
      check = f.check;
      inactivity = f.inactivity;
      alive = f.alive;
      ahead = f.ahead;
      ack_limit = f.ack_limit;
      nak_limit = f.nak_limit;
      longest = f.longest;
    })
with_value-fits mib key.Crc text new f e =
    let m = mapped _ (yes_of text) new e in
    subst Fits m.2 (record {
      ack = f.ack;
      nak = f.nak;
      check = f.check;
      inactivity = f.inactivity;
      alive = f.alive;
      ahead = f.ahead;
      ack_limit = f.ack_limit;
      nak_limit = f.nak_limit;
      longest = f.longest;
    })
with_value-fits mib key.Longest text new f e =
    let m = mapped _ (longest_of text) new e in
    let r = in_range 72 65535 (number_of text) m.0 m.1 in
    subst Fits m.2 (record {
      ack = f.ack;
      nak = f.nak;
      check = f.check;
      inactivity = f.inactivity;
      alive = f.alive;
      ahead = f.ahead;
      ack_limit = f.ack_limit;
      nak_limit = f.nak_limit;
      longest = le-ltb m.0 72 (leb-true 72 m.0 r.least);
    })
with_value-fits mib key.MostAhead text new f e =
    let m = mapped _ (keep_alive_of text) new e in
    subst Fits m.2 (record {
      ack = f.ack;
      nak = f.nak;
      check = f.check;
      inactivity = f.inactivity;
      alive = f.alive;
      ahead = some_alive text m.0 m.1;
      ack_limit = f.ack_limit;
      nak_limit = f.nak_limit;
      longest = f.longest;
    })

-- ---- several settings

FitsAll : Result Mib Wrong → Type 0
FitsAll (Ok mib) = Fits mib
FitsAll (Err wrong) = Unit {0}

valued_by : (o : Option Mib) (wrong : Wrong) → ((new : Mib) → o ≡ Some new → Fits new) → FitsAll (ok_or o wrong)
unfolding FitsAll
valued_by None wrong h = tt
valued_by (Some new) wrong h = h new refl

then_fits : {A : Type 0} (r : Result A Wrong) (later : A → Result Mib Wrong) → ((x : A) → FitsAll (later x)) → FitsAll (r >>= later)
unfolding FitsAll
then_fits (Ok x) later h = h x
then_fits (Err wrong) later h = tt

setting_at-fits : (mib : Mib) (text : List ℕ) (end : Option ℕ) → Fits mib → FitsAll (setting_at mib text end)
unfolding FitsAll
setting_at-fits mib text None f = tt
setting_at-fits mib text (Some end) f =
    then_fits (ok_or (key_of (take end text)) _) (λ known. valued mib known (drop (end + 1) text))
    (λ known. valued_by (with_value mib known (drop (end + 1) text)) _ (λ new e. with_value-fits mib known (drop (end + 1) text) new f e))

then_settings : (r : Result Mib Wrong) (later : Mib → Result Mib Wrong) → FitsAll r → ((x : Mib) → Fits x → FitsAll (later x)) → FitsAll (r >>= later)
unfolding FitsAll
then_settings (Ok mib) later f h = h mib f
then_settings (Err wrong) later f h = tt

settings-fits : (texts : List (List ℕ)) (mib : Mib) → Fits mib → FitsAll (settings mib texts)
unfolding FitsAll
settings-fits [] mib f = f
settings-fits (text ∷ texts) mib f =
    then_settings (setting mib text) (λ next. settings next texts) (setting_at-fits mib text (position is_equals text) f) (λ next g. settings-fits texts next g)

settings_in-fits : (mib : Mib) (texts : List (List ℕ)) → Fits mib → FitsAll (settings_in mib texts)
unfolding FitsAll
settings_in-fits mib [] f = tt
settings_in-fits mib (text ∷ texts) f = settings-fits (text ∷ texts) mib f

-- ---- lines

FitsSaid : Result LineMeaning Wrong → Type 0
FitsSaid (Ok said) = IsFit said
FitsSaid (Err wrong) = Unit {0}

set_fits : (r : Result Mib Wrong) → FitsAll r → FitsSaid (saying Settings r)
unfolding FitsAll FitsSaid
set_fits (Ok mib) f = fits_none mib f
set_fits (Err wrong) f = tt

first_fits : {A : Type 0} (r : Result A Wrong) (later : A → Result LineMeaning Wrong) → ((x : A) → FitsSaid (later x)) → FitsSaid (r >>= later)
unfolding FitsSaid
first_fits (Ok x) later h = h x
first_fits (Err wrong) later h = tt

said_fits : {A : Type 0} (say : A → LineMeaning) → ((x : A) → IsFit (say x)) → (r : Result A Wrong) → FitsSaid (saying say r)
unfolding FitsSaid
said_fits say h (Ok x) = h x
said_fits say h (Err wrong) = tt

directory_or_file-fits : (octets : List ℕ) (front : Option (List ℕ)) → FitsSaid (directory_or_file octets front)
directory_or_file-fits octets (Some front) = said_fits PutDirectory (λ x. tt) (path_or_wrong (path_of front))
directory_or_file-fits octets None = said_fits (λ path. PutFile path Nothing) (λ x. tt) (path_or_wrong (path_of octets))

put_in-fits : (texts : List (List ℕ)) → FitsSaid (put_in texts)
unfolding FitsSaid
put_in-fits [] = tt
put_in-fits (text ∷ []) =
    first_fits (ok_or (name_in text) _) (λ octets. directory_or_file octets (before_slash octets))
    (λ octets. directory_or_file-fits octets (before_slash octets))
put_in-fits (text ∷ next ∷ texts) =
    first_fits (ok_or (content_in (next ∷ texts)) _) (λ holds. saying (λ path. PutFile path holds) (path_or_wrong (path_spelled text)))
    (λ holds. said_fits (λ path. PutFile path holds) (λ x. tt) (path_or_wrong (path_spelled text)))

alone-fits : (known : FirstWord) (what : LineMeaning) (texts : List (List ℕ)) → IsFit what → FitsSaid (says_alone known what texts)
unfolding FitsSaid
alone-fits known what [] f = f
alone-fits known what (text ∷ texts) f = tt

input_in-fits : (now : ℕ) (texts : List (List ℕ)) → FitsSaid (input_in now texts)
unfolding FitsSaid
input_in-fits now [] = tt
input_in-fits now (text ∷ texts) =
    let clock = says_alone word.At (SetClock now) texts in
    elim (bytes_eq text (codes "pdu")) as (λ b. FitsSaid (if b then saying (λ octets. Receive now octets)
    (ok_or (octets_spelled texts) (wrongs.Expected word.At))
    else if bytes_eq text (codes "cancel") then saying (λ id. Cancel now id) (only_name word.At texts)
    else if bytes_eq text (codes "clock") then clock else Err (wrongs.Expected word.At))) [
      | true ↦ said_fits (λ octets. Receive now octets) (λ x. tt) (ok_or (octets_spelled texts) (wrongs.Expected word.At))
      | false ↦ elim (bytes_eq text (codes "cancel")) as (λ b. FitsSaid (if b then saying (λ id. Cancel now id) (only_name word.At texts)
          else if bytes_eq text (codes "clock") then clock else Err (wrongs.Expected word.At))) [
            | true ↦ said_fits (λ id. Cancel now id) (λ x. tt) (only_name word.At texts)
            | false ↦ elim (bytes_eq text (codes "clock")) as (λ b. FitsSaid (if b then clock else Err (wrongs.Expected word.At))) [
              | true ↦ alone-fits word.At (SetClock now) texts tt
              | false ↦ tt
            ]
          ]
    ]

at_in-fits : (texts : List (List ℕ)) → FitsSaid (at_in texts)
unfolding FitsSaid
at_in-fits [] = tt
at_in-fits (text ∷ texts) = first_fits (ok_or (number_of text) _) (λ now. input_in now texts) (λ now. input_in-fits now texts)

says-fits : (mib : Mib) (how_far : HeadProgress) (known : FirstWord) (texts : List (List ℕ)) → Fits mib → FitsSaid (says mib how_far known texts)
says-fits mib how_far word.Mib texts f = set_fits (settings_in mib texts) (settings_in-fits mib texts f)
says-fits mib how_far word.Config texts f = said_fits Configure (λ x. tt) (config_in how_far (numbers_of texts))
says-fits mib how_far word.Protect texts f = said_fits Protect (λ x. tt) (only_path word.Protect texts)
says-fits mib how_far word.Put texts f = put_in-fits texts
says-fits mib how_far word.At texts f = at_in-fits texts
says-fits mib how_far word.Get texts f = said_fits Get (λ x. tt) (only_path word.Get texts)
says-fits mib how_far word.Gaps texts f = said_fits Gaps (λ x. tt) (only_name word.Gaps texts)
says-fits mib how_far word.Phase texts f = said_fits Phase (λ x. tt) (only_name word.Phase texts)
says-fits mib how_far word.List texts f = alone-fits word.List ListAll texts tt
says-fits mib how_far word.Expect texts f = said_fits Expect (λ x. tt) (line_in texts)
says-fits mib how_far word.End texts f = alone-fits word.End End texts tt

in_time-fits : (mib : Mib) (how_far : HeadProgress) (known : FirstWord) (texts : List (List ℕ)) → Fits mib → FitsSaid (in_time mib how_far known texts)
unfolding FitsSaid
in_time-fits mib how_far known texts f =
    elim (is_of_head known && is_playing how_far) as (λ b. FitsSaid (if b then Err (wrongs.TooLate known) else says mib how_far known texts)) [
      | true ↦ tt
      | false ↦ says-fits mib how_far known texts f
    ]

begun_by-fits : (mib : Mib) (how_far : HeadProgress) (known : Option FirstWord) (texts : List (List ℕ)) → Fits mib → FitsSaid (begun_by mib how_far known texts)
begun_by-fits mib how_far known texts f =
    first_fits (ok_or known _) (λ one. in_time mib how_far one texts) (λ one. in_time-fits mib how_far one texts f)

FitsLine : Result (Option LineMeaning) Wrong → Type 0
FitsLine (Ok (Some said)) = IsFit said
FitsLine (Ok None) = Unit {0}
FitsLine (Err wrong) = Unit {0}

some_fits : (r : Result LineMeaning Wrong) → FitsSaid r → FitsLine (saying Some r)
unfolding FitsSaid FitsLine
some_fits (Ok said) f = f
some_fits (Err wrong) f = tt

texts_say-fits : (mib : Mib) (how_far : HeadProgress) (texts : List (List ℕ)) → Fits mib → FitsLine (texts_say mib how_far texts)
unfolding FitsLine
texts_say-fits mib how_far [] f = tt
texts_say-fits mib how_far (text ∷ texts) f = some_fits (begun_by mib how_far (word_of text) texts) (begun_by-fits mib how_far (word_of text) texts f)

line-fits : (mib : Mib) (how_far : HeadProgress) (line : List ℕ) → Fits mib → FitsLine (meaning_in mib how_far line)
unfolding FitsLine
line-fits mib how_far line f =
    elim (is_overlong line) as (λ b. FitsLine (if b then Err wrongs.TooLong else if is_comment line then Ok None else texts_say mib how_far (words_of line))) [
      | true ↦ tt
      | false ↦ elim (is_comment line) as (λ b. FitsLine (if b then Ok None else texts_say mib how_far (words_of line))) [
        | true ↦ tt
        | false ↦ texts_say-fits mib how_far (words_of line) f
      ]
    ]

pub command_fits : (mib : Mib) (how_far : HeadProgress) (line : List ℕ) (said : LineMeaning) → mib_fault mib ≡ None → meaning_in mib how_far line ≡ Ok
    (Some said) →
    IsFit said
unfolding FitsLine
command_fits mib how_far line said none e = subst FitsLine e (line-fits mib how_far line (none_fits mib none))
