-- What the program prints of a case: "Bench program: reads standard input and runs the search".
use Rattle.std.specs.Prelude.{ℕ, Option, Result, Ok, Err, IfOk, length, ◌<◌, ◌≤◌, ◌⊎◌, List, ◌≡◌, take, drop}
use Rattle.std.specs.Io.KnownBytes.{Consumes, IsAtEnd}
use Rattle.meaning.specs.Runs.{Violates, Holds}
use Rattle.reading.specs.Answers.{number_of, place_of}
use Rattle.reading.specs.Parts.{Parts, table_of, rule_of}
use Rattle.reading.specs.Refusals.{Check, parts_of, refusal}
use Rattle.text.specs.Text.{holds_text, violated_text, refused_text, Printed}

-- a run of the case that breaks its rule, as text
pub record ShowsRun (p : Parts) (text : List ℕ) : Type 0 where
  pub track : List ℕ
  pub k : ℕ
  pub m : ℕ
  pub violates : Violates (table_of p) (rule_of p) track k m
  pub shown : text ≡ violated_text (take k track) (take m (drop k track))

-- the case's refusal with its place; else `holds`, and the rule holds; or `violated`, and the run that is shown breaks it
abbrev pub Says : Check → Parts → List ℕ → Type 0
Says (Err r) p text = text ≡ refused_text (number_of r) (place_of r)
Says (Ok _) p text = ((text ≡ holds_text) × Holds (table_of p) (rule_of p)) ⊎ ShowsRun p text

-- the text that is told of a case stands at the start of the array, and the rest of the array is as it was
pub record Told (bytes out out' : List ℕ) (filled : ℕ) : Type 0 where
  pub text : List ℕ
  pub says : Says (refusal bytes) (parts_of bytes) text
  pub printed : Printed text out out' filled

-- the bytes that were read fit the room
abbrev pub Within : {E : Type 0} → Result ℕ E → ℕ → Type 0
Within result room = IfOk result (λ length. length ≤ room)

-- what was read is what the reader had next, and all of it where the room is not full
abbrev pub Takes : {E : Type 0} → Option (List ℕ) → Option (List ℕ) → Result ℕ E → List ℕ → Type 0
Takes before after result room =
    IfOk result (λ taken. Consumes before after (take taken room) × (taken < length room → IsAtEnd after))
