-- Bodies, and the bytes of their records.
use Rattle.std.proofs.Common.{◌≡◌, ◌∙◌, ◌<◌, ◌+◌, ◌-◌, ◌^◌, ℕ, List, [], ◌∷◌, ◌++◌, length, get_or, take, drop, refl, sym, ap, subst, arith, append_assoc, length-append}
use Rattle.std.proofs.lemmas.List.{take_at, take_more, take-append-drop, drop_at, flat_map_more}
use Rattle.retro_base.specs.Fields.{field_bytes}
use Rattle.retro_base.specs.Framing.{sized, record_of, records_of, AreBodies}
use Rattle.gate_log.specs.Framed.{body_of, IsFramed}
use Rattle.gate_log.specs.declared.framed.Framed.TheInside.{Inside}
use Rattle.retro_base.proofs.FieldLaws.{length-field_bytes}

pub length-sized : (body : List ℕ) → length (sized body) ≡ length body + 4
length-sized body = omega (arith, length-append (field_bytes 4 (length body)) body, length-field_bytes 4 (length body))

pub records-push : (bodies : List (List ℕ)) (body : List ℕ) → records_of (bodies ++ body ∷ []) ≡ records_of bodies ++ record_of body
records-push bodies body = sym (flat_map_more record_of [] bodies body)

pub length-records-push : (bodies : List (List ℕ)) (body : List ℕ) → length (records_of (bodies ++ body ∷ [])) ≡ length (records_of bodies) + length body + 5
length-records-push bodies body = omega (arith, ap length (records-push bodies body), length-append (records_of bodies) (record_of body), length-sized body)

records-append : (xs ys : List (List ℕ)) → records_of (xs ++ ys) ≡ records_of xs ++ records_of ys
records-append [] ys = refl
records-append (x ∷ xs) ys = ap (λ (t : List ℕ). record_of x ++ t) (records-append xs ys) ∙ sym (append_assoc (record_of x) (records_of xs) (records_of ys))

-- the records of a front, and of what is behind it
pub length-records-split : (bodies : List (List ℕ)) (n : ℕ) → length (records_of bodies) ≡ length (records_of (take n bodies)) + length (records_of (drop n bodies))
length-records-split bodies n =
    ap (λ (bs : List (List ℕ)). length (records_of bs)) (sym (take-append-drop n bodies)) ∙ ap (λ (t : List ℕ). length t) (records-append (take n bodies) (drop n bodies)) ∙ length-append (records_of (take n bodies)) (records_of (drop n bodies))

-- the record of one body more
pub length-records-next : (bodies : List (List ℕ)) (i : ℕ) (body : List ℕ) → i < length bodies → body ≡ get_or bodies i body → length (records_of (take (i + 1) bodies)) ≡ length (records_of (take i bodies)) + length body + 5
length-records-next bodies i body lt is =
    ap (λ (bs : List (List ℕ)). length (records_of bs)) (take_more bodies i body lt ∙ ap (λ (b : List ℕ). take i bodies ++ b ∷ []) (sym is)) ∙ length-records-push (take i bodies) body

pub AreBodies-push : (bodies : List (List ℕ)) (body : List ℕ) → AreBodies bodies → length body < 2 ^ 32 → AreBodies (bodies ++ body ∷ [])
AreBodies-push [] body all short = (short, tt)
AreBodies-push (first ∷ bodies) body (p, all) short = (p, AreBodies-push bodies body all short)

-- a front of them with one body more
pub bodies_one_more : (bodies : List (List ℕ)) (i : ℕ) (body : List ℕ) → i < length bodies → body ≡ get_or bodies i body → AreBodies (take i bodies) → length body < 2 ^ 32 → AreBodies (take (i + 1) bodies)
bodies_one_more bodies i body lt is all short =
    let front : take (i + 1) bodies ≡ take i bodies ++ body ∷ [] = take_more bodies i body lt ∙ ap (λ (b : List ℕ). take i bodies ++ b ∷ []) (sym is) in
    subst AreBodies (sym front) (AreBodies-push (take i bodies) body all short)

-- a body's length, the body, and a closed gate
pub length-piece : (body : List ℕ) → length (sized body ++ 0 ∷ []) ≡ length body + 5
length-piece body = omega (arith, length-append (sized body) (0 ∷ []), length-sized body)

-- framed bytes are five more than the body's
pub length-framed : (framed : Inside) → IsFramed framed → length framed.bytes.items ≡ length (body_of framed) + 5
length-framed framed is = omega (arith, ap length is.framing, length-append (sized (body_of framed)) (0 ∷ []), length-sized (body_of framed))

-- the body of framed bytes
pub unframed : (body bytes : List ℕ) → bytes ≡ sized body ++ 0 ∷ [] → drop 4 (take (length bytes - 1) bytes) ≡ body
unframed body bytes is =
    let long : length bytes - 1 ≡ length (sized body) = omega (arith, ap length is, length-append (sized body) (0 ∷ [])) in
    ap (λ (l : List ℕ). drop 4 (take (length bytes - 1) l)) is
    ∙ ap (λ (n : ℕ). drop 4 (take n (sized body ++ 0 ∷ []))) long
    ∙ ap (λ (l : List ℕ). drop 4 l) (take_at (sized body) (0 ∷ []) (length (sized body)) refl)
    ∙ drop_at (field_bytes 4 (length body)) body 4 (length-field_bytes 4 (length body))
