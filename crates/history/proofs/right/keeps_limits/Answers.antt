use Rattle.std.proofs.Common.{◌≡◌, ◌∙◌, refl, sym, Bool, true, false, cond, arith}
use mir.Val.{bool_byte}
use Rattle.std.specs.Option.{is_some}
use Rattle.history.specs.History.{declared}
use Rattle.history.proofs.RightLaws.{limits_are, declared_more}
use Rattle.history.proofs.right.keeps_limits.Goals as goal

byte_is : (b : Bool) → bool_byte b ≡ cond b 1 0
byte_is true = refl
byte_is false = refl

pub returns : goal.returns
returns c =
    let marks = declared c.args.marks.now c.args.captures c.args.label.now in
    let more : c.from-more.result ≡ cond (is_some c.args.label.now) 1 0 = rw (c.from-more.ensures, c.is_some.ensures) (byte_is (is_some c.args.label.now)) in
    let grown = declared_more c.args.marks.now c.args.captures c.from-more.result c.args.label.now more in
    let is = limits_are c.args.capacity c.args.captures c.oldest_start_behind-start.result _ _ marks (sym c.oldest_start_behind-start.ensures) grown.0 (grown.1 ∙ omega (arith, c.newest.ensures, c.from.ensures)) in
    (λ t. is.0 (c.within_limits.ensures.0 t), λ l. c.within_limits.ensures.1 (is.1 l))
