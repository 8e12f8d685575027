-- Numbers combined in parts.
use Rattle.std.proofs.Common.{◌≡◌, ◌∙◌, ℤ, List, [], ◌∷◌, ◌++◌, Option, Some, None, arith, ap, fold, refl, sym}
use Rattle.std.specs.List.{filter_map, flat_map}
use Rattle.std.proofs.lemmas.Int.{clamps, ints}
use Rattle.fold_kit.specs.declared.how.How.{How}
use Rattle.fold_kit.specs.declared.how.How.TheVariants.{Min, Max, Add}
use Rattle.fold_kit.specs.Combination.{combination, combined, Regroups}

pub combined_assoc : (how : How) (a b c : ℤ) → combined how (combined how a b) c ≡ combined how a (combined how b c)
combined_assoc Min a b c = omega (arith, ints, clamps)
combined_assoc Max a b c = omega (arith, ints, clamps)
combined_assoc Add a b c = omega (arith, ints)

-- what two parts give
abbrev pub merged : How → Option ℤ → Option ℤ → Option ℤ
merged how None b = b
merged how (Some a) None = Some a
merged how (Some a) (Some b) = Some (combined how a b)

merged_assoc : (how : How) (a b c : Option ℤ) → merged how (merged how a b) c ≡ merged how a (merged how b c)
merged_assoc how None b c = refl
merged_assoc how (Some a) None c = refl
merged_assoc how (Some a) (Some b) None = refl
merged_assoc how (Some a) (Some b) (Some c) = ap (λ n. Some n) (combined_assoc how a b c)

fold_from : (how : How) (a b : ℤ) (ns : List ℤ) → fold (combined how) (combined how a b) ns ≡ combined how a (fold (combined how) b ns)
fold_from how a b [] = refl
fold_from how a b (n ∷ ns) = ap (λ m. fold (combined how) m ns) (combined_assoc how a b n) ∙ fold_from how a (combined how b n) ns

-- a number in front of a list
combination_front : (how : How) (n : ℤ) (ns : List ℤ) → combination how (n ∷ ns) ≡ merged how (Some n) (combination how ns)
combination_front how n [] = refl
combination_front how n (m ∷ ns) = ap (λ r. Some r) (fold_from how n m ns)

-- a list behind another
pub combination_append : (how : How) (ms ns : List ℤ) → combination how (ms ++ ns) ≡ merged how (combination how ms) (combination how ns)
combination_append how [] ns = refl
combination_append how (m ∷ ms) ns =
    combination_front how m (ms ++ ns)
    ∙ ap (merged how (Some m)) (combination_append how ms ns)
    ∙ sym (merged_assoc how (Some m) (combination how ms) (combination how ns))
    ∙ ap (λ r. merged how r (combination how ns)) (sym (combination_front how m ms))

-- what a part gives, in front of what the others give
module _ (how : How) (part : List ℤ) (parts : List (List ℤ)) where
  front_by : (given : Option ℤ) → combination how part ≡ given → combination how (filter_map (combination how) (part ∷ parts)) ≡ merged how (combination how part) (combination how (filter_map (combination how) parts))
  front_by None e = rw e refl
  front_by (Some n) e = rw e (combination_front how n (filter_map (combination how) parts))

pub regroups : Regroups
regroups how [] = refl
regroups how (part ∷ parts) =
    front_by how part parts (combination how part) refl
    ∙ ap (merged how (combination how part)) (regroups how parts)
    ∙ sym (combination_append how part (flat_map (λ part. part) parts))
