-- A body framed for an append: behind its length, and before a closed gate.
use Rattle.std.specs.Prelude.{ℕ, ◌-◌, ◌≡◌, ◌<◌, ◌^◌, List, [], ◌∷◌, ◌++◌, length, take, drop}
use Rattle.retro_base.specs.Framing.{sized}
use Rattle.gate_log.specs.declared.framed.Framed.TheInside.{Inside}

-- the body, without its length and the gate behind it
abbrev pub body_of : Inside → List ℕ
body_of framed = drop 4 (take (length framed.bytes.items - 1) framed.bytes.items)

-- the bytes are a body's length, the body, and a closed gate
pub record IsFramed (framed : Inside) : Type 0 where
  pub framing : framed.bytes.items ≡ sized (body_of framed) ++ 0 ∷ []
  pub short : length (body_of framed) < 2 ^ 32
