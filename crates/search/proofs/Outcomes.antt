-- What the search's outcome leaves open, and what it rules out: the verdict is holds exactly when the rule holds; two outcomes for one input
-- agree in all but the run, k and m. Assumes nothing.
use Rattle.std.specs.Prelude.{Some, None, Ok, Err}
use Prim.Native.Nat.{ℕ, ◌≤◌}
use native.Mathlib.Omega.{arith}
use mathlib.Core.Path.{◌≡◌, refl, sym, ap, ◌∙◌, subst}
use mathlib.Core.Logic.{◌↔◌}
use mathlib.Core.Bool.{Bool, true, false}
use mathlib.Core.List.{List}
use lib.Dec.{ltb}
use lib.ListN.{length}
use borrow.Author.Tests.{le-ltb}
use Rattle.meaning.specs.Runs.{Holds}
use Rattle.reading.specs.Parts.{Parts, table_of, rule_of}
use Rattle.reading.specs.Refusals.{Check, parts_of, refusal}
use Rattle.reading.specs.declared.CaseRefusal.{CaseRefusal}
use Rattle.search.specs.Answers.{SearchAnswer, number, place}
use Rattle.search.specs.Outcome.{workspace_needs, track_needs, Refuses, Decides, Searches, Reads, Searched}
use Rattle.search.specs.declared.SearchRefusal.{SearchRefusal}

-- ---- from the parts to the whole

pub searched_refused : (bytes ws track : List ℕ) (r : CaseRefusal) → refusal bytes ≡ Err r
    → Searched bytes ws track (Err (SearchRefusal.Case r)) ws track
unfolding Searched
searched_refused bytes ws track r e =
    subst (λ (c : Check). Reads c (parts_of bytes) ws track (Err (SearchRefusal.Case r)) ws track) (sym e)
    (record { answered = refl; workspace_as_lent = refl; track_as_lent = refl })

pub searched_read : (bytes ws track : List ℕ) (answer : SearchAnswer) (ws' track' : List ℕ) → refusal bytes ≡ Ok tt
    → Searches (ltb (length ws) (workspace_needs (parts_of bytes))) (ltb (length track) (track_needs (parts_of bytes))) (parts_of bytes) ws track answer ws' track'
    → Searched bytes ws track answer ws' track'
unfolding Searched
searched_read bytes ws track answer ws' track' e s =
    subst (λ (c : Check). Reads c (parts_of bytes) ws track answer ws' track') (sym e) s

-- a case that is read, with room enough, is decided
pub searched_decides : (bytes ws track : List ℕ) (answer : SearchAnswer) (ws' track' : List ℕ) → refusal bytes ≡ Ok tt
    → workspace_needs (parts_of bytes) ≤ length ws → track_needs (parts_of bytes) ≤ length track
    → Searched bytes ws track answer ws' track' → Decides (parts_of bytes) ws track answer ws' track'
unfolding Searched
searched_decides bytes ws track answer ws' track' e l h s =
    subst (λ (b : Bool). Searches false b (parts_of bytes) ws track answer ws' track') (le-ltb _ _ h)
    (subst (λ (b : Bool). Searches b (ltb (length track) (track_needs (parts_of bytes))) (parts_of bytes) ws track answer ws' track') (le-ltb _ _ l)
    (subst (λ (c : Check). Reads c (parts_of bytes) ws track answer ws' track') e s))

-- ---- the verdict is holds exactly when the rule holds

pub decides_exactly : (p : Parts) (ws track : List ℕ) (answer : SearchAnswer) (ws' track' : List ℕ) → Decides p ws track answer ws' track'
    → (number answer ≡ 0) ↔ Holds (table_of p) (rule_of p)
decides_exactly p ws track (Ok None) ws' track' d = (λ e. d.holds, λ h. refl)
decides_exactly p ws track (Ok (Some run)) ws' track' d = (λ e. absurd (omega arith), λ h. absurd (h track' run.stem run.repeat d.violates))
decides_exactly p ws track (Err r) ws' track' d = absurd d

-- ---- two outcomes

-- they agree in the answer's number and place and in the workspace; and unless the rule is violated, in the whole answer and in the track
pub record Agree (a b : SearchAnswer) (ws₁ track₁ ws₂ track₂ : List ℕ) : Type 0 where
  pub same_number : number a ≡ number b
  pub same_place : place a ≡ place b
  pub same_workspace : ws₁ ≡ ws₂
  pub same_length : length track₁ ≡ length track₂
  pub same_answer : (number a ≡ 1 → ⊥) → a ≡ b
  pub same_track : (number a ≡ 1 → ⊥) → track₁ ≡ track₂

module _ {ws track : List ℕ} {a b : SearchAnswer} {ws₁ track₁ ws₂ track₂ : List ℕ} where
  refuse_agree : {r : SearchRefusal} → Refuses ws track a ws₁ track₁ r → Refuses ws track b ws₂ track₂ r → Agree a b ws₁ track₁ ws₂ track₂
  refuse_agree f g =
      let same : a ≡ b = f.answered ∙ sym g.answered in
      let tracks : track₁ ≡ track₂ = f.track_as_lent ∙ sym g.track_as_lent in
      record {
        same_number = ap number same;
        same_place = ap place same;
        same_workspace = f.workspace_as_lent ∙ sym g.workspace_as_lent;
        same_length = ap length tracks;
        same_answer = λ n. same;
        same_track = λ n. tracks;
      }

decide_agree : (p : Parts) (ws track : List ℕ) (a b : SearchAnswer) (ws₁ track₁ ws₂ track₂ : List ℕ) → Decides p ws track a ws₁ track₁
    → Decides p ws track b ws₂ track₂ → Agree a b ws₁ track₁ ws₂ track₂
decide_agree p ws track (Ok None) (Ok None) ws₁ track₁ ws₂ track₂ f g =
    let tracks = f.track_untouched ∙ sym g.track_untouched in
    record {
      same_number = refl;
      same_place = refl;
      same_workspace = f.workspace_cleared ∙ sym g.workspace_cleared;
      same_length = ap length tracks;
      same_answer = λ n. refl;
      same_track = λ n. tracks;
    }
decide_agree p ws track (Ok None) (Ok (Some run)) ws₁ track₁ ws₂ track₂ f g = absurd (f.holds track₂ run.stem run.repeat g.violates)
decide_agree p ws track (Ok None) (Err r) ws₁ track₁ ws₂ track₂ f g = absurd g
decide_agree p ws track (Ok (Some run)) (Ok None) ws₁ track₁ ws₂ track₂ f g = absurd (g.holds track₁ run.stem run.repeat f.violates)
decide_agree p ws track (Ok (Some run)) (Ok (Some other)) ws₁ track₁ ws₂ track₂ f g = record {
  same_number = refl;
  same_place = refl;
  same_workspace = f.workspace_cleared ∙ sym g.workspace_cleared;
  same_length = f.track_length ∙ sym g.track_length;
  same_answer = λ n. absurd (n refl);
  same_track = λ n. absurd (n refl);
}
decide_agree p ws track (Ok (Some run)) (Err r) ws₁ track₁ ws₂ track₂ f g = absurd g
decide_agree p ws track (Err r) b ws₁ track₁ ws₂ track₂ f g = absurd f

pub searched_agree : (bytes ws track : List ℕ) (a b : SearchAnswer) (ws₁ track₁ ws₂ track₂ : List ℕ)
    → Searched bytes ws track a ws₁ track₁ → Searched bytes ws track b ws₂ track₂ → Agree a b ws₁ track₁ ws₂ track₂
unfolding Searched
searched_agree bytes ws track a b ws₁ track₁ ws₂ track₂ f g =
    reads (refusal bytes) f g
  where
    searches : (x y : Bool) → Searches x y (parts_of bytes) ws track a ws₁ track₁ → Searches x y (parts_of bytes) ws track b ws₂ track₂ → Agree a b ws₁ track₁ ws₂ track₂
    searches true y f g = refuse_agree f g
    searches false true f g = refuse_agree f g
    searches false false f g = decide_agree (parts_of bytes) ws track a b ws₁ track₁ ws₂ track₂ f g

    reads : (c : Check) → Reads c (parts_of bytes) ws track a ws₁ track₁ → Reads c (parts_of bytes) ws track b ws₂ track₂ → Agree a b ws₁ track₁ ws₂ track₂
    reads (Err r) f g = refuse_agree f g
    reads (Ok _) f g = searches (ltb (length ws) (workspace_needs (parts_of bytes))) (ltb (length track) (track_needs (parts_of bytes))) f g
