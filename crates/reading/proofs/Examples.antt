-- The night update is read, by computation: none of the rows refuses it. Assumes nothing.
use Rattle.std.specs.Prelude.{Ok}
use mathlib.Core.Path.{◌≡◌, refl}
use Rattle.reading.specs.Lowest.{lowest, any, count}
use Rattle.reading.specs.Parts.{label_of, flags_of, from_of, to_of, node_of, operator_from, operators_from, places}
use Rattle.reading.specs.Refusals.{length_at, at04, parts_of, in_steps, field_refusal, out_of_range, last_refusal, fields_refusal, bad_state, bad_end, above, not_above, starts_none, unknown, first_limit, second_limit, wrong_byte, states_refusal, edges_refusal, dead_end_refusal, nodes_refusal, temporals_refusal, parts_refusal, refusal}
use Rattle.reading.specs.Night.{night}

pub night_passes : refusal night ≡ Ok tt
unfolding lowest any count label_of flags_of from_of to_of node_of operator_from operators_from length_at at04 parts_of in_steps field_refusal out_of_range last_refusal fields_refusal bad_state bad_end above not_above starts_none unknown first_limit second_limit wrong_byte states_refusal edges_refusal dead_end_refusal nodes_refusal temporals_refusal parts_refusal refusal night
night_passes = refl

pub night_states : (parts_of night).states ≡ 3
unfolding parts_of night
night_states = refl

-- "P = 12"
pub night_places : places (parts_of night) ≡ 12
unfolding count node_of operator_from operators_from length_at at04 parts_of night
night_places = refl
