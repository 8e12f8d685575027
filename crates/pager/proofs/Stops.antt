-- Answers that are handed on.
use Rattle.std.proofs.Common.{Result, Ok, Err, inl, inr}
use Rattle.retro_base.specs.declared.refusal.Refusal.{Refusal}
use Rattle.pager.specs.Stop.{Allowed, AllowedStop}
use Rattle.pager.specs.declared.stop.Stop.{Stop}
use Rattle.pager.specs.declared.stop.Stop.TheVariants as stop

-- a refusal that is handed on is allowed where it was
pub allowed_stop : {F : Type 0} {P Q : Refusal → Type 0} (e : Stop F) → ((why : Refusal) → P why → Q why) → AllowedStop P e → AllowedStop Q e
allowed_stop (stop.Refused why) go (inl memory) = inl memory
allowed_stop (stop.Refused why) go (inr allowed) = inr (go why allowed)
allowed_stop (stop.Pager fault) go allowed = tt

-- the same of any answer
pub allowed_on : {X Y F : Type 0} (view : X → Y) (P Q : Result Y Refusal → Type 0) (r : Result X (Stop F)) → ((a : Result Y Refusal) → P a → Q a) → Allowed view P r → Allowed view Q r
allowed_on view P Q (Ok x) go allowed = go (Ok (view x)) allowed
allowed_on view P Q (Err e) go allowed = allowed_stop e (λ why h. go (Err why) h) allowed
