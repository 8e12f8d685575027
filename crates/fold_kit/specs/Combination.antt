-- Numbers in one: the least of them, the greatest, or their sum.
use Rattle.std.specs.Prelude.{◌≡◌, ◌^◌, ℤ, pos, ◌+ℤ◌, neg_ℤ, ◌≤ℤ◌, List, [], ◌∷◌, Option, Some, None, fold}
use Rattle.std.specs.Int.{int_max, int_min}
use Rattle.std.specs.List.{filter_map, flat_map}
use Rattle.fold_kit.specs.declared.how.How.{How}
use Rattle.fold_kit.specs.declared.how.How.TheVariants.{Min, Max, Add}

-- two numbers in one
abbrev pub combined : How → ℤ → ℤ → ℤ
combined Min a b = int_min a b
combined Max a b = int_max a b
combined Add a b = a +ℤ b

-- within plus and minus 2^100
abbrev pub IsWithin : ℤ → Type 0
IsWithin n = (neg_ℤ (pos (2 ^ 100)) ≤ℤ n) × (n ≤ℤ pos (2 ^ 100))

-- the numbers of a list in one; there is none of no numbers
abbrev pub combination : How → List ℤ → Option ℤ
combination how [] = None
combination how (n ∷ ns) = Some (fold (combined how) n ns)

-- to combine each of the parts of a list, and then what they give, is to combine the list
abbrev pub Regroups : Type 0
Regroups = (how : How) (parts : List (List ℤ)) →
    combination how (filter_map (combination how) parts) ≡ combination how (flat_map (λ part. part) parts)
