-- Why a drop is refused.
use Rattle.std.proofs.Common.{◌≡◌, ◌≤◌, ◌<◌, ◌||◌, ◌==◌, ℕ, zero, suc, Bool, true, false, Option, Some, None, refl, sym, inl, inr, arith}
use Rattle.std.specs.Prelude.{nat_lt, option_map}
use Rattle.std.specs.Option.{option_or}
use Rattle.std.proofs.lemmas.Bool.{eqb-true, ltb-false, ltb-true}
use Rattle.retro_base.specs.declared.refusal.Refusal.{Refusal}
use Rattle.retro_base.specs.declared.refusal.Refusal.TheVariants as refusal
use Rattle.history.specs.declared.stop.Stop.{Stop}
use Rattle.journal_law.specs.Lawful.{IsNone}
use Rattle.txn_set.specs.Refused.{no_snapshot, pinned_below, stopped, where_so}
use Rattle.store.proofs.Finding.{some_is}

-- a refusal of these three, in this order
pub data Kind (newest below : ℕ) (pins : Option (ℕ × ℕ)) (stop : Option Stop) (why : Refusal) : Type 0 where
  Stops : (s : Stop) → stop ≡ Some s → why ≡ stopped s → Kind newest below pins stop why
  Numbers : stop ≡ None → IsNone below newest → why ≡ refusal.NoSuchSnapshot below newest → Kind newest below pins stop why
  Pins : stop ≡ None → 1 ≤ below → below ≤ newest → (pin : ℕ × ℕ) → pins ≡ Some pin → pin.0 < below → why ≡ refusal.Pinned pin.0 pin.1 → Kind newest below pins stop why

pub kind_of : (newest below : ℕ) (pins : Option (ℕ × ℕ)) (stop : Option Stop) (why : Refusal) → option_or (option_map stopped stop) (option_or (no_snapshot below newest) (pinned_below below pins)) ≡ Some why → Kind newest below pins stop why
kind_of newest below pins (Some s) why e = Stops s refl (sym (some_is (stopped s) why e))
kind_of newest below pins None why e = numbered (below == 0) refl (nat_lt newest below) refl e where
  positive : (n : ℕ) → (n == 0) ≡ false → 1 ≤ n
  positive zero f = absurd (cc f)
  positive (suc n) f = omega arith

  pinned : 1 ≤ below → below ≤ newest → (ps : Option (ℕ × ℕ)) → pins ≡ ps → pinned_below below ps ≡ Some why → Kind newest below pins None why
  pinned low high None is f = absurd (cc f)
  pinned low high (Some pin) is f = at (nat_lt pin.0 below) refl f where
    at : (test : Bool) → nat_lt pin.0 below ≡ test → where_so test (refusal.Pinned pin.0 pin.1) ≡ Some why → Kind newest below pins None why
    at true less g = Pins refl low high pin is (ltb-true pin.0 below less) (sym (some_is _ why g))
    at false less g = absurd (cc g)

  numbered : (zero_there : Bool) → (below == 0) ≡ zero_there → (above : Bool) → nat_lt newest below ≡ above → option_or (where_so (zero_there || above) (refusal.NoSuchSnapshot below newest)) (pinned_below below pins) ≡ Some why → Kind newest below pins None why
  numbered true z above a f = Numbers refl (inl (eqb-true below 0 z)) (sym (some_is _ why f))
  numbered false z true a f = Numbers refl (inr (ltb-true newest below a)) (sym (some_is _ why f))
  numbered false z false a f = pinned (positive below z) (ltb-false newest below a) pins refl f

pub goes_on : (stop : Option Stop) (rest : Option Refusal) → option_or (option_map stopped stop) rest ≡ None → stop ≡ None
goes_on None rest e = refl
goes_on (Some s) rest e = absurd (cc e)
