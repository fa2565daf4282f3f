-- The outcome of a search: "a case, a workspace and a track, both of 16-bit entries". A relation between what was lent, the answer, and what
-- stands in the workspace and the track afterwards.
use Rattle.std.specs.Prelude.{ℕ, ◌+◌, ◌*◌, ◌≡◌, Bool, true, false, List, ◌++◌, ltb, length, drop, replicate, Some, None, Ok, Err}
use Rattle.meaning.specs.Runs.{Violates, Holds}
use Rattle.reading.specs.Parts.{Parts, table_of, rule_of, places}
use Rattle.reading.specs.Refusals.{Check, parts_of, refusal}
use Rattle.search.specs.Answers.{SearchAnswer}
use Rattle.search.specs.declared.SearchRefusal.{SearchRefusal}

-- "With P = S · 2^T · (E+1), the workspace needs 6·P entries and the track 2·P"
abbrev pub workspace_needs : Parts → ℕ
workspace_needs p = 6 * places p

abbrev pub track_needs : Parts → ℕ
track_needs p = 2 * places p

-- "After holds or violated the first 6·P workspace entries are 0 and later ones untouched."
abbrev pub cleared : Parts → List ℕ → List ℕ
cleared p workspace = replicate (workspace_needs p) 0 ++ drop (workspace_needs p) workspace

module _ (workspace track : List ℕ) (answer : SearchAnswer) (workspace' track' : List ℕ) where
  -- a refusal is given "and writes nothing"
  pub record Refuses (refusal : SearchRefusal) : Type 0 where
    pub answered : answer ≡ Err refusal
    pub workspace_as_lent : workspace' ≡ workspace
    pub track_as_lent : track' ≡ track

-- "After holds the track is untouched."
pub record HasHeld (p : Parts) (workspace track workspace' track' : List ℕ) : Type 0 where
  pub holds : Holds (table_of p) (rule_of p)
  pub workspace_cleared : workspace' ≡ cleared p workspace
  pub track_untouched : track' ≡ track

-- "After violated its first k+m entries are the run, the rest untouched, and k and m are in the answer."
pub record HasBroken (p : Parts) (workspace track workspace' track' : List ℕ) (k m : ℕ) : Type 0 where
  pub violates : Violates (table_of p) (rule_of p) track' k m
  pub workspace_cleared : workspace' ≡ cleared p workspace
  pub rest_untouched : drop (k + m) track' ≡ drop (k + m) track
  pub track_length : length track' ≡ length track

-- the verdict, with room enough: holds or violated, and no other answer
abbrev pub Decides : Parts → List ℕ → List ℕ → SearchAnswer → List ℕ → List ℕ → Type 0
Decides p workspace track (Ok None) workspace' track' = HasHeld p workspace track workspace' track'
Decides p workspace track (Ok (Some run)) workspace' track' = HasBroken p workspace track workspace' track' run.stem run.repeat
Decides p workspace track (Err r) workspace' track' = ⊥

-- "Then, for the search, 40 and 41": the workspace is too short, the track is, or there is room enough
abbrev pub Searches : Bool → Bool → Parts → List ℕ → List ℕ → SearchAnswer → List ℕ → List ℕ → Type 0
Searches true short p workspace track answer workspace' track' =
    Refuses workspace track answer workspace' track' (SearchRefusal.Workspace (workspace_needs p))
Searches false true p workspace track answer workspace' track' =
    Refuses workspace track answer workspace' track' (SearchRefusal.Track (track_needs p))
Searches false false p workspace track answer workspace' track' = Decides p workspace track answer workspace' track'

-- the case is refused, or it is searched
abbrev pub Reads : Check → Parts → List ℕ → List ℕ → SearchAnswer → List ℕ → List ℕ → Type 0
Reads (Err r) p workspace track answer workspace' track' =
    Refuses workspace track answer workspace' track' (SearchRefusal.Case r)
Reads (Ok _) p workspace track answer workspace' track' =
    Searches (ltb (length workspace) (workspace_needs p)) (ltb (length track) (track_needs p)) p workspace track answer workspace' track'

-- the whole outcome: the case's bytes, what was lent, the answer, and what stands there afterwards
unfoldable pub Searched : List ℕ → List ℕ → List ℕ → SearchAnswer → List ℕ → List ℕ → Type 0
Searched bytes workspace track answer workspace' track' = Reads (refusal bytes) (parts_of bytes) workspace track answer workspace' track'
