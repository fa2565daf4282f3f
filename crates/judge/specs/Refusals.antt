-- What refuses a run that the judge is given: "50, 51, 52, 53, 54, 40".
use Rattle.std.specs.Prelude.{ℕ, suc, ◌+◌, Bool, true, false, not, List, ⊤, Result, Ok, Err, leb, ltb, eqb, length, get_or}
use Rattle.meaning.specs.Table.{Table}
use Rattle.meaning.specs.Runs.{position}
use Rattle.reading.specs.Lowest.{lowest, any}
use Rattle.judge.specs.declared.RunRefusal.{RunRefusal}
use Rattle.judge.specs.declared.RunRefusal.TheVariants.{NoLoop, TooLong, NoState, NotInitial, NoEdge, NoRoom}

-- what the rows on runs say
abbrev pub RunCheck : Type 0
RunCheck = Result ⊤ RunRefusal

-- a row refuses, or the later ones say
abbrev pub refused_if : Bool → RunRefusal → RunCheck → RunCheck
refused_if true r later = Err r
refused_if false r later = later

-- "Always the lowest place": the row's refusal at the lowest bad entry of the first n
abbrev pub refused_at : (ℕ → Bool) → ℕ → (ℕ → RunRefusal) → RunCheck → RunCheck
refused_at bad n row later = refused_if (any bad n) (row (lowest bad n)) later

-- 52: "entry is S or more"
abbrev pub outside : Table → List ℕ → ℕ → Bool
outside t track i = leb t.states (get_or track i 0)

-- 54: "no edge from this entry to the next (from the last: to entry k)"
abbrev pub gap : Table → List ℕ → ℕ → ℕ → ℕ → Bool
gap t track k m i = not (t.edge (get_or track i 0) (get_or track (position k m (suc i)) 0))

-- 52, 53 ("first state not initial"), 54 and 40 ("scratch too short"), of a run that the track holds
unfoldable pub stored_refusal : Table → List ℕ → ℕ → ℕ → ℕ → RunCheck
stored_refusal t track k m room =
    refused_at (outside t track) (k + m) NoState
    (refused_if (not (t.initial (get_or track 0 0))) NotInitial
    (refused_at (gap t track k m) (k + m) NoEdge
    (refused_if (ltb room (k + m)) (NoRoom (k + m))
    (Ok tt))))

-- 50: "m is 0"; 51: "k+m exceeds the track's length, as whole numbers"
unfoldable pub run_refusal : Table → List ℕ → ℕ → ℕ → ℕ → RunCheck
run_refusal t track k m room =
    refused_if (eqb m 0) NoLoop
    (refused_if (ltb (length track) (k + m)) (TooLong (length track))
    (stored_refusal t track k m room))
