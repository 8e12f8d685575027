-- The table of good words.
use Rattle.std.proofs.Common.{◌≡◌, ◌∙◌, List, String, Err, false, map, string_bytes, ap, if◌then◌else◌}
use Rattle.std.specs.List.{list_all}
use Rattle.std.proofs.lemmas.List.Folds.{list_all-map}
use Rattle.retro.specs.declared.words.Mistake.TheVariants.{BadWords}
use Rattle.retro.specs.Words.{asked, command_of, is_plain}

-- words of which one begins with a hyphen
pub hyphened : {A : Type 0} (words : List (String A)) → list_all (λ w. is_plain (string_bytes w)) words ≡ false → command_of (map (λ w. string_bytes w) words) ≡ Err BadWords
hyphened words e = ap (λ b. if b then asked (map (λ w. string_bytes w) words) else Err BadWords) (list_all-map is_plain (λ w. string_bytes w) words ∙ e)
