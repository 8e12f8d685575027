-- What was read of the source, and what was left in it.
use Rattle.std.proofs.Common.{◌≡◌, ◌+◌, ◌≤◌, ◌∙◌, ℕ, List, [], Option, Some, None, IfSome, Result, Ok, Err, length, length-take, take, drop, ap, sym, subst, arith}
use Rattle.std.specs.Prelude.{OnOk}
use Rattle.std.proofs.lemmas.List.{drop_all}
use Rattle.std.specs.Option.{option_map}
use Rattle.script.specs.declared.limits.TheConstants.{SCRIPT_BYTES}
use Rattle.script.specs.Rules.{FrontDecides}
use Rattle.session.specs.Plan.{Plan}
use Rattle.retro.specs.Asked.{BytesAsk, IsAsked, IsTheBadLine, IsTheScript}
use Rattle.retro.specs.Seen.{IsSteady, Seen}
use Rattle.retro.specs.declared.asking.NoPlan.{NoPlan}
use Rattle.retro.specs.declared.asking.NoPlan.TheVariants.{BadScript, OutOfMemory, SourceFault}

-- what is so of the front is so of all that was left
carried : (Is : List ℕ → Type 0) → ((bytes : List ℕ) → Is (take (SCRIPT_BYTES + 1) bytes) → Is bytes) → (left : Option (List ℕ)) (front : List ℕ) → IfSome left (λ bytes. front ≡ take (SCRIPT_BYTES + 1) bytes) → Is front → IfSome left Is
carried Is carries None front e is = tt
carried Is carries (Some bytes) front e is = carries bytes (subst Is e is)

-- a front that is shorter than it might be is all there was
read_to_end : (m : ℕ) (before now : Option (List ℕ)) (front : List ℕ) → IfSome before (λ bytes. front ≡ take (m + 1) bytes) → now ≡ option_map (drop (length front)) before → length front ≤ m → now ≡ option_map (λ bytes. []) before
read_to_end m None now front e left short = left
read_to_end m (Some bytes) now front e left short =
    let few : length bytes ≤ length front = omega (arith, ap length e, length-take (m + 1) bytes) in
    left ∙ ap Some (drop_all (length front) bytes few)

-- what the front asks for, the source asks for
pub front_asks : FrontDecides → (source : Seen) (front : List ℕ) (asked : Result Plan NoPlan) → IfSome source.bytes_old (λ bytes. front ≡ take (SCRIPT_BYTES + 1) bytes)
    → source.bytes_new ≡ option_map (drop (length front)) source.bytes_old → IsSteady source → BytesAsk front asked → OnOk asked (length front ≤ SCRIPT_BYTES) → IsAsked source asked
front_asks law source front (Ok plan) e rest steady asks short = (
  record {
    script = asks.script;
    read = carried (IsTheScript asks.script) (λ bytes is. (law.reads bytes (Ok asks.script) is.0, law.only bytes (Ok asks.script) is.1, law.told bytes asks.script is.2)) source.bytes_old front e asks.read;
    asks = asks.asks;
  },
  read_to_end SCRIPT_BYTES source.bytes_old source.bytes_new front e rest short,
  steady,
)
front_asks law source front (Err (BadScript n)) e rest steady asks short = (carried (IsTheBadLine n) (λ bytes bad. (law.reads bytes (Err n) bad.0, law.only bytes (Err n) bad.1, law.first_bad bytes n bad.2)) source.bytes_old front e asks, steady)
front_asks law source front (Err OutOfMemory) e rest steady asks short = steady
front_asks law source front (Err SourceFault) e rest steady asks short = absurd asks
