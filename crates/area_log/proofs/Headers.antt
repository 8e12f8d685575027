-- Headers of regions.
use Rattle.std.proofs.Common.{◌≡◌, ◌∙◌, ◌+◌, ◌≤◌, ◌<◌, ℕ, List, length, get_or, take, drop, nat_eq, eq-eqb, sym, ap, arith}
use Rattle.std.proofs.lemmas.Bool.{eqb-true}
use Rattle.std.proofs.lemmas.List.{get_or-take, get_or-drop}
use Rattle.retro_base.specs.Fields.{number_at}
use Rattle.retro_base.specs.declared.limits.TheConstants.{OPEN_GATE}
use Rattle.gate_log.specs.Region.{generation_at}
use Rattle.retro_base.proofs.Numbers.{number_at-bytes}
use Rattle.area_log.specs.Header.{IsHeader}
use Rattle.area_log.specs.declared.header.Header.{Header}

-- two lists of bytes have the same header there
pub record SameHeader (place : ℕ) (old new : List ℕ) : Type 0 where
  pub gate : get_or new place 0 ≡ get_or old place 0
  pub generation : generation_at place new ≡ generation_at place old

pub same_header : (place : ℕ) (old new : List ℕ) → place + 16 ≤ length old → length new ≡ length old → ((i : ℕ) → place ≤ i → i < place + 16 → get_or new i 0 ≡ get_or old i 0) → SameHeader place old new
same_header place old new fits long same = record {
  gate = same place (omega arith) (omega arith);
  generation = number_at-bytes 8 (place + 8) (place + 8) new old (omega (arith, fits, long)) (omega (arith, fits)) (λ i lt. same (place + 8 + i) (omega arith) (omega arith));
}

-- what was read of a header
pub header_of : (place : ℕ) (seen out : List ℕ) (header : Header) → place + 16 ≤ length seen → length out ≡ 16 → out ≡ take (length out) (drop place seen)
    → header.is_open ≡ nat_eq (get_or out 0 0) OPEN_GATE → header.generation ≡ number_at 8 out 8 → IsHeader place seen header
header_of place seen out header fits long read is_gate is_number =
    let byte : (i : ℕ) → i < 16 → get_or out i 0 ≡ get_or seen (place + i) 0 = λ i lt. ap (λ (l : List ℕ). get_or l i 0) read ∙ get_or-take (length out) (drop place seen) i 0 (omega (arith, lt, long)) ∙ get_or-drop place seen i 0 in
    let at : place + 0 ≡ place = omega arith in
    let first : get_or out 0 0 ≡ get_or seen place 0 = byte 0 (omega arith) ∙ ap (λ (k : ℕ). get_or seen k 0) at in
    record {
      gate = (λ is. sym first ∙ eqb-true (get_or out 0 0) OPEN_GATE (sym is_gate ∙ is), λ is. is_gate ∙ eq-eqb (get_or out 0 0) OPEN_GATE (first ∙ is));
      under = is_number ∙ number_at-bytes 8 8 (place + 8) out seen (omega (arith, long)) (omega (arith, fits)) (λ i lt.
          let e : place + (8 + i) ≡ place + 8 + i = omega arith in
          byte (8 + i) (omega (arith, lt)) ∙ ap (λ (k : ℕ). get_or seen k 0) e);
    }
