use Rattle.std.proofs.Common.{◌≡◌, ◌≤◌, ◌-◌, length, take, drop, false, ltb, rules}
use Rattle.std.proofs.lemmas.Bool.{le-ltb}
use Rattle.std.proofs.lemmas.List.{take_rest}
use Rattle.records.proofs.Bytes.{byte-is}
use Rattle.records.proofs.decoding.byte_of.Goals as goal

pub returns : goal.returns
returns c =
    let bytes = c.args.bytes.now in
    let some : 1 ≤ length bytes = search rules in
    let long : ltb (length bytes) 1 ≡ false = le-ltb _ _ some in
    let rest : take (length bytes - 1) (drop 1 bytes) ≡ drop 1 bytes = take_rest bytes 1 in
    rw (long, rest, byte-is)
