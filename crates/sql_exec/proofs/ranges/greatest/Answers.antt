use Rattle.std.proofs.Common.{◌≡◌, refl, replicate}
use Rattle.values.specs.declared.text.TheConstants.{TEXT_BYTES}
use Rattle.sql_exec.proofs.ranges.greatest.Goals as goal

pub returns-in_ok-bytes-in-Text : goal.returns-in_ok-bytes-in-Text
returns-in_ok-bytes-in-Text c =
    let items : c.in_ok-bytes-in-Text.bytes.items ≡ replicate TEXT_BYTES 126 = c.in_ok-bytes-in-Text.ensures.items_if_clones_equal (λ y e. e) in
    rw (c.in-Text.is, c.new.ensures, c.from.ensures, items) refl
