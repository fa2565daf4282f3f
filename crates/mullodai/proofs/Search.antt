-- What the exported search promises. `SearchOutcome` is, by name, the whole `ensures` of
-- `mullodai_search`; each line below speaks of any answer r, with the workspace and the track then left, that it allows. Assumes nothing.
use Rattle.std.specs.Prelude.{Some, None, Ok, Err}
use Prim.Native.Nat.{ℕ, ◌+◌, ◌*◌, ◌≤◌, ◌<◌}
use mathlib.Core.Path.{◌≡◌, refl, sym, ap, ◌∙◌}
use mathlib.Core.List.{List, ◌++◌}
use mathlib.Core.Logic.{◌⊎◌, inl, inr, ⊎_elim, ◌↔◌}
use native.Mathlib.Omega.{arith}
use lib.ListN.{length, drop, replicate}
use borrow.Author.Tests.{lt-ltb, le-ltb}
use Rattle.meaning.specs.Runs.{Violates, Holds}
use Rattle.reading.specs.Parts.{table_of, rule_of, places}
use Rattle.reading.specs.Refusals.{parts_of, refusal}
use Rattle.reading.specs.Night.{night}
use Rattle.reading.specs.Answers.{number_of, place_of}
use Rattle.reading.specs.declared.CaseRefusal.{CaseRefusal}
use Rattle.search.specs.Answers.{SearchAnswer, number, stem, loop}
use Rattle.search.specs.Outcome.{Searched, Refuses, Decides, workspace_needs, track_needs, cleared}
use Rattle.search.specs.declared.SearchRefusal.{SearchRefusal}
use Rattle.search.proofs.Outcomes.{searched_agree, searched_decides, decides_exactly}
use Rattle.search.proofs.Night.{night_without, night_violated, night_written, night_short, without_held}
use Rattle.mullodai.specs.Outcomes.{answer_at, JudgeOutcome, SearchOutcome, search_answer}
use Rattle.mullodai.specs.declared.Answer.{Answer}
use Rattle.judge.proofs.Passed.{run_passes}
use Rattle.mullodai.proofs.Judge.{violates_is_1}

-- two outcomes for one input agree in all but the run, its k and its m: in the number, the place, every entry of the workspace, the
-- track's length; and, unless it is violated, in the whole answer and every entry of the track
pub one_search_outcome : (bytes workspace track : List ℕ) (r r' : Answer) (ws₁ track₁ ws₂ track₂ : List ℕ)
    → SearchOutcome bytes workspace track r ws₁ track₁ → SearchOutcome bytes workspace track r' ws₂ track₂
    → (r.number ≡ r'.number) × (r.place ≡ r'.place) × (ws₁ ≡ ws₂) × (length track₁ ≡ length track₂)
    × ((r.number ≡ 1 → ⊥) → (r ≡ r') × (track₁ ≡ track₂))
one_search_outcome bytes workspace track r r' ws₁ track₁ ws₂ track₂ (a, s, e) (b, s', e') =
    let same = searched_agree bytes workspace track a b ws₁ track₁ ws₂ track₂ s s' in
    let first : r.number ≡ number a = ap (λ (x : Answer). x.number) e in (
      first ∙ same.same_number ∙ sym (ap (λ (x : Answer). x.number) e'),
      ap (λ (x : Answer). x.place) e ∙ same.same_place ∙ sym (ap (λ (x : Answer). x.place) e'),
      same.same_workspace,
      same.same_length,
      λ f. (e ∙ ap search_answer (same.same_answer (λ q. f (first ∙ q))) ∙ sym e', same.same_track (λ q. f (first ∙ q))),
    )

module _ (bytes workspace track : List ℕ) (r : Answer) (workspace' track' : List ℕ)
    (allowed : SearchOutcome bytes workspace track r workspace' track') where
  -- both buffers are as they were lent
  abbrev pub AsLent : Type 0
  AsLent = (workspace' ≡ workspace) × (track' ≡ track)

  as_refused : (a : SearchAnswer) (q : SearchRefusal) → r ≡ search_answer a → Refuses workspace track a workspace' track' q → (r ≡ search_answer (Err q)) × AsLent
  as_refused a q e f = (e ∙ ap search_answer f.answered, (f.workspace_as_lent, f.track_as_lent))

  -- of a refused case: the refusal's number and place, and both buffers as they were lent
  pub case_refused : (q : CaseRefusal) → refusal bytes ≡ Err q → (r ≡ answer_at (number_of q) (place_of q)) × AsLent
  unfolding Searched
  case_refused q e =
      let (a, s, same) = allowed in
      as_refused a (SearchRefusal.Case q) same (rw e at s)

  -- of a case that is read: 40 and 6·P where the workspace is shorter, then 41 and 2·P where the track is
  pub workspace_short : refusal bytes ≡ Ok tt → length workspace < 6 * places (parts_of bytes)
      → (r ≡ answer_at 40 (6 * places (parts_of bytes))) × AsLent
  unfolding Searched
  workspace_short e h =
      let (a, s, same) = allowed in
      as_refused a (SearchRefusal.Workspace (workspace_needs (parts_of bytes))) same
      (rw (e, lt-ltb (length workspace) (workspace_needs (parts_of bytes)) h) at s)

  pub track_short : refusal bytes ≡ Ok tt → 6 * places (parts_of bytes) ≤ length workspace → length track < 2 * places (parts_of bytes)
      → (r ≡ answer_at 41 (2 * places (parts_of bytes))) × AsLent
  unfolding Searched
  track_short e w h =
      let (a, s, same) = allowed in
      as_refused a (SearchRefusal.Track (track_needs (parts_of bytes))) same
      (rw (
        e,
        le-ltb (length workspace) (workspace_needs (parts_of bytes)) w,
        lt-ltb (length track) (track_needs (parts_of bytes)) h,
      ) at s)

module _ (bytes workspace track : List ℕ) (r : Answer) (workspace' track' : List ℕ)
    (allowed : SearchOutcome bytes workspace track r workspace' track')
    (read : refusal bytes ≡ Ok tt)
    (room : 6 * places (parts_of bytes) ≤ length workspace)
    (track_room : 2 * places (parts_of bytes) ≤ length track) where
  decided : (a : SearchAnswer) × Decides (parts_of bytes) workspace track a workspace' track' × (r ≡ search_answer a)
  decided =
      let (a, s, e) = allowed in
      (a, searched_decides bytes workspace track a workspace' track' read room track_room s, e)

  -- demand 3: 0 exactly when no looping run, of any length, breaks the rule
  pub 0_is_holds : (r.number ≡ 0) ↔ Holds (table_of (parts_of bytes)) (rule_of (parts_of bytes))
  0_is_holds =
      let (a, d, e) = decided in
      let exactly = decides_exactly (parts_of bytes) workspace track a workspace' track' d in
      let same : r.number ≡ number a = ap (λ (x : Answer). x.number) e in
      (λ q. exactly.0 (sym same ∙ q), λ h. same ∙ exactly.1 h)

  -- after a verdict the first 6·P workspace entries are 0 and later ones untouched
  pub workspace_cleared : workspace' ≡ replicate (6 * places (parts_of bytes)) 0 ++ drop (6 * places (parts_of bytes)) workspace
  workspace_cleared = let (a, d, e) = decided in go a d
    where
      go : (a : SearchAnswer) → Decides (parts_of bytes) workspace track a workspace' track' → workspace' ≡ cleared (parts_of bytes) workspace
      go (Err q) d = absurd d
      go (Ok None) d = d.workspace_cleared
      go (Ok (Some run)) d = d.workspace_cleared

  -- after holds the track is untouched
  pub track_untouched : r.number ≡ 0 → track' ≡ track
  track_untouched z = let (a, d, e) = decided in go a d (sym (ap (λ (x : Answer). x.number) e) ∙ z)
    where
      go : (a : SearchAnswer) → Decides (parts_of bytes) workspace track a workspace' track' → number a ≡ 0 → track' ≡ track
      go (Err q) d n = absurd d
      go (Ok None) d n = d.track_untouched
      go (Ok (Some run)) d n = absurd (omega arith)

  -- otherwise 1, and a run that breaks it is written out, with its k and m
  broken : (a : SearchAnswer) → Decides (parts_of bytes) workspace track a workspace' track'
      → (number a ≡ 0) ⊎ ((number a ≡ 1) × Violates (table_of (parts_of bytes)) (rule_of (parts_of bytes)) track' (stem a) (loop a)
      × (drop (stem a + loop a) track' ≡ drop (stem a + loop a) track))
  broken (Err q) d = absurd d
  broken (Ok None) d = inl refl
  broken (Ok (Some run)) d = inr (refl, d.violates, d.rest_untouched)

  pub else_violated : (r.number ≡ 0 → ⊥)
      → (r.number ≡ 1) × Violates (table_of (parts_of bytes)) (rule_of (parts_of bytes)) track' r.stem r.repeat
      × (drop (r.stem + r.repeat) track' ≡ drop (r.stem + r.repeat) track)
  else_violated f =
      let (a, d, e) = decided in
      ⊎_elim
      (λ z. absurd (f (ap (λ (x : Answer). x.number) e ∙ z)))
      (λ b. rw e b)
      (broken a d)

  -- and the judge, given that run and a scratch of k+m, says so too
  pub judge_agrees : (r.number ≡ 0 → ⊥) → (scratch : List ℕ) → r.stem + r.repeat ≤ length scratch → (j : Answer) (after : List ℕ)
      → JudgeOutcome bytes track' r.stem r.repeat scratch j after → j ≡ answer_at 1 0
  judge_agrees f scratch enough j after judged =
      let v = (else_violated f).1 in
      violates_is_1 bytes track' r.stem r.repeat scratch j after judged read
      (run_passes (table_of (parts_of bytes)) track' r.stem r.repeat (length scratch) v.run enough) v

-- "A bench that refuses everything", "One that says holds to all": on the night update, with 72 entries and 24, every outcome is
-- violated; and "An invented k or m falls to demand 3's run": the track's own run violates with just these
pub night_is_violated : (workspace track : List ℕ) (r : Answer) (workspace' track' : List ℕ) → length workspace ≡ 72 → length track ≡ 24
    → SearchOutcome night workspace track r workspace' track'
    → (r.number ≡ 1) × Violates (table_of (parts_of night)) (rule_of (parts_of night)) track' r.stem r.repeat
night_is_violated workspace track r workspace' track' w t (a, s, e) =
    rw e (night_violated workspace track a workspace' track' w t s)

-- "or writes no track": a track of zeros does not stay as it was lent
pub night_is_written : (workspace : List ℕ) (r : Answer) (workspace' track' : List ℕ) → length workspace ≡ 72
    → SearchOutcome night workspace (replicate 24 0) r workspace' track' → track' ≡ replicate 24 0 → ⊥
night_is_written workspace r workspace' track' w (a, s, e) = night_written workspace a workspace' track' w s

-- "with 71 entries the answer is 40 and 72"
pub night_needs_72 : (workspace track : List ℕ) (r : Answer) (workspace' track' : List ℕ) → length workspace ≡ 71
    → SearchOutcome night workspace track r workspace' track' → (r.number ≡ 40) × (r.place ≡ 72)
night_needs_72 workspace track r workspace' track' w (a, s, e) =
    rw e (night_short workspace track a workspace' track' w s)

-- "Without edge 0 to 2 … the case holds": "One that says violated to all" is not allowed
pub night_mended_holds : (workspace track : List ℕ) (r : Answer) (workspace' track' : List ℕ) → length workspace ≡ 72 → length track ≡ 24
    → SearchOutcome night_without workspace track r workspace' track' → r.number ≡ 0
night_mended_holds workspace track r workspace' track' w t (a, s, e) =
    ap (λ (x : Answer). x.number) e ∙ without_held workspace track a workspace' track' w t s
