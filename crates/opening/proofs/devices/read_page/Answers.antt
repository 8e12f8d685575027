use Rattle.std.proofs.Common.{◌≡◌, ◌∙◌, ◌*◌, ℕ, length, take, drop, ap, rules}
use Rattle.retro_base.specs.declared.limits.TheConstants.{PAGE_BYTES}
use Rattle.opening.proofs.devices.read_page.Goals as goal

pub returns-in-Ok-clause-read : goal.returns-in-Ok-clause-read
returns-in-Ok-clause-read g c = λ honest.
    let seen = (g.D.Disk.state c.args.disk.now).seen in
    let whole : length c.read_at.new.out ≡ PAGE_BYTES = search rules in
    c.of.ensures
    ∙ (c.in-Ok.ensures.read honest).read
    ∙ ap (λ (n : ℕ). take n (drop (1024 * c.from.result) seen)) whole
    ∙ ap (λ (n : ℕ). take PAGE_BYTES (drop (1024 * n) seen)) c.from.ensures
