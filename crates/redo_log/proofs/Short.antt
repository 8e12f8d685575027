-- The record of a right base fits a region of the log.
use Rattle.std.proofs.Common.{◌≡◌, ℕ, List, [], ◌∷◌, length, arith, length-append}
use Rattle.retro_base.specs.declared.limits.TheConstants.{LOG_REGION_BYTES}
use Rattle.retro_base.specs.Fields.{field_bytes}
use Rattle.retro_base.specs.Framing.{sized}
use Rattle.retro_base.proofs.FieldLaws.{length-field_bytes}
use Rattle.history.specs.declared.entry.Base.{Base}
use Rattle.history.specs.declared.log.Version.{Version}
use Rattle.history.specs.Right.{IsBase}
use Rattle.records.specs.Entries.{entry_bytes, BaseFits}
use Rattle.records.specs.declared.entry.Entry.TheVariants as entries
use Rattle.records.proofs.Short.{bases_are_short}
use Rattle.gate_log.specs.Cause.{Fit}

pub always_room : (version : Version) (base : Base) (size : ℕ) → size ≡ LOG_REGION_BYTES → BaseFits version base → IsBase base → Fit size (entry_bytes version (entries.Base base) ∷ [])
always_room version base size is fits right =
    let body : List ℕ = entry_bytes version (entries.Base base) in
    omega (arith, is, bases_are_short version base fits right, length-append (sized body) [], length-append (field_bytes 4 (length body)) body, length-field_bytes 4 (length body))
