use Rattle.std.proofs.Common.{◌≡◌, [], replicate}
use Rattle.retro_base.specs.declared.limits.TheConstants.{PAGE_BYTES}
use Rattle.plain_store.proofs.pages.zero_pages.Given as goal

abbrev pub invariant-loop : goal.invariant-loop
invariant-loop l = l.pages.items ≡ replicate l.counter (record { bytes = replicate PAGE_BYTES 0; past = [] })
