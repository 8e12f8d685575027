-- The bytes of the records of some bodies.
use Rattle.std.proofs.Common.{◌≡◌, ◌∙◌, ◌+◌, ◌-◌, ◌<◌, ◌++◌, ℕ, List, [], ◌∷◌, length, take, drop, get_or, min, Vec, sym, ap, arith}
use Rattle.std.proofs.lemmas.List.{drop-map, drop_min, get_or-map, length-map, take_more, take_rest}
use Rattle.std.specs.declared.alloc.Global.{Global}
use Rattle.retro_base.specs.Framing.{records_of}
use Rattle.gate_log.specs.Bodies.{bodies_of}
use Rattle.gate_log.proofs.Framing.{length-records-push}

pub length-bodies : (vecs : List (Vec ℕ Global)) → length (bodies_of vecs) ≡ length vecs
length-bodies vecs = length-map vecs (λ (v : Vec ℕ Global). v.items)

-- the record of one body more
pub length-records-vec : (vecs : List (Vec ℕ Global)) (i : ℕ) (vec : Vec ℕ Global) → i < length vecs → vec ≡ get_or vecs i vec → length (records_of (take (i + 1) (bodies_of vecs))) ≡ length (records_of (take i (bodies_of vecs))) + length vec.items + 5
length-records-vec vecs i vec lt is =
    let long : i < length (bodies_of vecs) = omega (arith, lt, length-bodies vecs) in
    let body : get_or (bodies_of vecs) i [] ≡ vec.items = get_or-map (λ (v : Vec ℕ Global). v.items) vecs i vec [] lt ∙ ap (λ (v : Vec ℕ Global). v.items) (sym is) in
    ap (λ (bs : List (List ℕ)). length (records_of bs)) (take_more (bodies_of vecs) i [] long ∙ ap (λ (b : List ℕ). take i (bodies_of vecs) ++ b ∷ []) body) ∙ length-records-push (take i (bodies_of vecs)) vec.items

-- the bodies behind a place that is cut at the end
pub bodies_behind : (vecs : List (Vec ℕ Global)) (behind place : ℕ) → place ≡ min behind (length vecs) → bodies_of (take (length vecs - place) (drop place vecs)) ≡ drop behind (bodies_of vecs)
bodies_behind vecs behind place is =
    ap bodies_of (take_rest vecs place ∙ ap (λ (n : ℕ). drop n vecs) is ∙ drop_min behind vecs) ∙ sym (drop-map (λ (vec : Vec ℕ Global). vec.items) behind vecs)
