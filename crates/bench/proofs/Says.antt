-- What the program prints is so: with the room that the program lends, the search's answer is the case's refusal, holds or violated, never
-- that the room is short (the most places are 64 · 2^4 · 5); and a run that it answers can be shown. Assumes nothing.
use Prim.Native.Nat.{ℕ, ◌+◌, ◌≤◌}
use mathlib.Core.List.{List, ◌++◌}
use mathlib.Core.Logic.{inl, inr}
use mathlib.Core.Path.{◌≡◌, refl}
use native.Mathlib.Nat.{mul-le-mul}
use native.Mathlib.Omega.{arith}
use lib.ListN.{length, take, drop}
use lib.Seq.{take-add, length-take-le, get_or-take}
use lib.Pow.{pow_mono}
use Rattle.std.specs.Prelude.{Option, Some, None, Ok, Err}
use Rattle.reading.proofs.Admitted.{Admitted}
use Rattle.reading.specs.Parts.{Parts, places}
use Rattle.reading.specs.Refusals.{Check, parts_of, refusal}
use Rattle.reading.proofs.Known.{admitted}
use Rattle.search.specs.Answers.{SearchAnswer, search_number, search_place}
use Rattle.search.specs.declared.Lasso.{Lasso}
use Rattle.search.proofs.Outcomes.{searched_decides}
use Rattle.search.specs.Outcome.{Decides, HasBroken, Reads, Searched}
use Rattle.text.specs.Text.{holds_text, violated_text, refused_text, Printed, Shown}
use Rattle.bench.specs.Told.{Says, Told}

-- the most places
places_few : (p : Parts) → Admitted p → places p ≤ 5120
places_few p a =
    mul-le-mul {n₂ = 1024} {m₂ = 5} (mul-le-mul {n₂ = 64} {m₂ = 16} a.few_states (pow_mono {j = 4} a.few_temporals)) (omega arith)

-- the text of an answer, with the track as the search leaves it
abbrev pub text_of : SearchAnswer → List ℕ → List ℕ
text_of (Ok None) track = holds_text
text_of (Ok (Some run)) track = violated_text (take run.stem track) (take run.repeat (drop run.stem track))
text_of (Err r) track = refused_text (search_number r) (search_place r)

module _ (bytes ws track ws' track' : List ℕ) (wide : length ws ≡ 30720) (long : length track ≡ 10240) where
  decides : (a : SearchAnswer) → refusal bytes ≡ Ok tt → Searched bytes ws track a ws' track' → Decides (parts_of bytes) ws track a ws' track'
  decides a e searched =
      let few : places (parts_of bytes) ≤ 5120 = places_few (parts_of bytes) (admitted bytes e) in
      searched_decides bytes ws track a ws' track' e (omega arith) (omega arith) searched

  decided : (a : SearchAnswer) → Decides (parts_of bytes) ws track a ws' track' → Says (Ok tt) (parts_of bytes) (text_of a track')
  decided (Ok None) d = inl (refl, d.holds)
  decided (Ok (Some run)) d = inr (record { track = track'; k = run.stem; m = run.repeat; violates = d.violates; shown = refl })
  decided (Err r) d = absurd d

  said : (a : SearchAnswer) → Searched bytes ws track a ws' track' → Says (refusal bytes) (parts_of bytes) (text_of a track')
  unfolding Searched
  said a searched = go (refusal bytes) refl searched
    where
      go : (check : Check) → refusal bytes ≡ check → Reads check (parts_of bytes) ws track a ws' track' → Says check (parts_of bytes) (text_of a track')
      go (Err r) e s = rw s.answered refl
      go (Ok _) e s = decided a (decides a e searched)

  -- what is printed of an answer is told of the case
  pub told : (a : SearchAnswer) {out out' : List ℕ} {filled : ℕ} → Searched bytes ws track a ws' track' → Printed (text_of a track') out out' filled
      → Told bytes out out' filled
  told a searched printed = record { text = text_of a track'; says = said a searched; printed = printed }

  -- a run that is answered stands in the track, and can be shown
  module _ {found : Option Lasso} {run : Lasso} (is : found ≡ Some run) (searched : Searched bytes ws track (Ok found) ws' track') where
    read : refusal bytes ≡ Ok tt
    unfolding Searched
    read = go (refusal bytes) refl searched
      where
        go : (check : Check) → refusal bytes ≡ check → Reads check (parts_of bytes) ws track (Ok found) ws' track' → refusal bytes ≡ Ok tt
        go (Err r) e s = absurd (cc s.answered)
        go (Ok _) e s = e

    broken : HasBroken (parts_of bytes) ws track ws' track' run.stem run.repeat
    broken = decides (Ok (Some run)) read (rw is at searched)

    pub run_fits : run.stem + run.repeat ≤ length track'
    run_fits = broken.violates.run.stored

    pub run_shown : Shown (take run.stem track' ++ take run.repeat (drop run.stem track'))
    run_shown =
        let few : (parts_of bytes).states ≤ 64 = (admitted bytes read).few_states in
        let fits : length (take (run.stem + run.repeat) track') ≡ run.stem + run.repeat = length-take-le _ track' run_fits in
        rw (← take-add run.stem run.repeat track')
        (record {
          few = omega (arith, broken.track_length, run_fits);
          states = λ i h. rw (get_or-take (run.stem + run.repeat) track' i 0 (omega arith)) (omega (arith, broken.violates.run.states i (omega arith)));
        })
