-- What the search answers, and the paper's number and values of each answer.
use Rattle.std.specs.Prelude.{ℕ, Option, Some, None, Result, Ok, Err}
use Rattle.reading.specs.Answers.{number_of, place_of}
use Rattle.search.specs.declared.Lasso.{Lasso}
use Rattle.search.specs.declared.SearchRefusal.{SearchRefusal}
use Rattle.search.specs.declared.SearchRefusal.TheVariants.{Case, Workspace, Track}

-- holds, where there is no run that breaks the rule; violated, with k and m of one; or a refusal
abbrev pub SearchAnswer : Type 0
SearchAnswer = Result (Option Lasso) SearchRefusal

-- 40 "workspace too short", 41 "track too short (search)"; or the case's refusal
abbrev pub search_number : SearchRefusal → ℕ
search_number (Case r) = number_of r
search_number (Workspace entries) = 40
search_number (Track entries) = 41

-- "entries needed", or the place of the case's refusal
abbrev pub search_place : SearchRefusal → ℕ
search_place (Case r) = place_of r
search_place (Workspace entries) = entries
search_place (Track entries) = entries

-- "Answer 0 is holds, 1 is violated"; or the refusal's
abbrev pub number : SearchAnswer → ℕ
number (Ok None) = 0
number (Ok (Some run)) = 1
number (Err r) = search_number r

-- the refusal's; 0 of a verdict
abbrev pub place : SearchAnswer → ℕ
place (Ok found) = 0
place (Err r) = search_place r

-- "k and m are in the answer"; both are 0 unless it is violated
abbrev pub stem : SearchAnswer → ℕ
stem (Ok None) = 0
stem (Ok (Some run)) = run.stem
stem (Err r) = 0

abbrev pub loop : SearchAnswer → ℕ
loop (Ok None) = 0
loop (Ok (Some run)) = run.repeat
loop (Err r) = 0
