-- Why a front of a source was not read.
use Rattle.std.specs.Prelude.{ℕ, List, codes}
use Rattle.retro_base.specs.declared.refusal.Refusal.{Refusal}
use Rattle.retro_base.specs.declared.refusal.Refusal.TheVariants.{OutOfMemory, SourceFault}
use Rattle.feeds.specs.declared.source.ReadError.{ReadError}
use Rattle.feeds.specs.declared.source.ReadError.TheVariants.{Memory, Source}

-- the refusal of a failed read
abbrev pub refusal_of : ReadError → Refusal
refusal_of Memory = OutOfMemory
refusal_of Source = SourceFault

-- a failed read in words
abbrev pub words_of : ReadError → List ℕ
words_of Memory = codes "out of memory"
words_of Source = codes "source fault"
