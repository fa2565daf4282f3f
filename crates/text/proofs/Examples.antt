-- 01's outputs, byte for byte: the night update, a run with an empty stem, a refusal, and `holds`. Assumes nothing.
use mathlib.Core.List.{[], ◌∷◌}
use mathlib.Core.Path.{◌≡◌, refl}
use Rattle.text.specs.Text.{bytes, digits_in, digits, states_text, holds_text, refused_text, violated_text}

night_printed : violated_text (0 ∷ []) (2 ∷ []) ≡ bytes "violated\nstem 0\nloop 2\n"
unfolding digits_in digits states_text violated_text
night_printed = refl

empty_stem_printed : violated_text [] (63 ∷ 10 ∷ []) ≡ bytes "violated\nstem\nloop 63 10\n"
unfolding digits_in digits states_text violated_text
empty_stem_printed = refl

refusal_printed : refused_text 23 2 ≡ bytes "refused 23 at 2\n"
unfolding digits_in digits refused_text
refusal_printed = refl

holds_printed : holds_text ≡ bytes "holds\n"
unfolding holds_text
holds_printed = refl
