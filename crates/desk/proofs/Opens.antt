-- What the bytes of the desk's devices open to.
use Rattle.std.proofs.Common.{◌≡◌, ◌∙◌, ◌⊎◌, inl, inr, ℕ, List, [], ◌∷◌, get_or, refl, sym, ap, subst}
use Rattle.std.specs.Prelude.{Some}
use Rattle.retro_base.specs.Fields.{field_bytes}
use Rattle.block_file.specs.Blocks.{block_at}
use Rattle.retro_base.specs.declared.limits.TheConstants.{LOG_REGION_BYTES}
use Rattle.history.specs.declared.entry.Base.{Base}
use Rattle.history.specs.declared.log.Log.{Log}
use Rattle.history.specs.declared.log.Version.{Version}
use Rattle.history.specs.declared.log.Version.TheVariants.{One, Two}
use Rattle.records.specs.declared.entry.Entry.TheVariants as entries
use Rattle.records.specs.Entries.{entry_bytes}
use Rattle.records.specs.Log.{IsLog}
use Rattle.records.proofs.Logs.{log_one_way}
use Rattle.area_log.proofs.Unique.{device_one_way}
use Rattle.redo_log.specs.Redo.{ListsLog}
use Rattle.race_model.specs.Desk.{Desk, Doubt, Sure, OneMore, NewBase, IsInDoubt}
use Rattle.race_model.proofs.DeskKeeps.{desk_opens}
use Rattle.desk.specs.Desk.{log_of, other_log}
use Rattle.desk.specs.Opening.{DeskBytesOpen}

-- the first record tells the version
same_version : (version other : Version) (base that : Base) → entry_bytes version (entries.Base base) ≡ entry_bytes other (entries.Base that) → version ≡ other
unfolding field_bytes
same_version One One base that e = refl
same_version Two Two base that e = refl
same_version One Two base that e = absurd (let bad : 1 ≡ 2 = ap (λ (l : List ℕ). get_or l 2 0) e in cc)
same_version Two One base that e = absurd (let bad : 2 ≡ 1 = ap (λ (l : List ℕ). get_or l 2 0) e in cc)

-- bodies are those of a log in one version, and of one log
one_version : (version other : Version) (bodies : List (List ℕ)) (log that : Log) → IsLog version bodies log → IsLog other bodies that → version ≡ other
one_version version other [] log that is are = absurd is
one_version version other (body ∷ bodies) log that is are = same_version version other log.base that.base (sym is.1.spelled ∙ are.1.spelled)

one_log : (log other : Log) (bytes : List ℕ) → ListsLog log bytes → ListsLog other bytes → other ≡ log
one_log log other bytes this that =
    let bodies : that.bodies ≡ this.bodies = device_one_way.one_list LOG_REGION_BYTES bytes that.bodies this.bodies that.lists this.lists in
    let stands : IsLog other.version this.bodies other = subst (λ (b : List (List ℕ)). IsLog other.version b other) bodies that.stands in
    let version : other.version ≡ log.version = one_version other.version log.version this.bodies other log stands this.stands in
    (log_one_way log.version).one_value this.bodies other log (subst (λ (v : Version). IsLog v this.bodies other) version stands) this.stands

is_log_of : (desk : Desk) (doubt : Doubt) (log : Log) → (log ≡ log_of desk) ⊎ (other_log desk doubt ≡ Some log) → (log ≡ log_of desk) ⊎ IsInDoubt desk doubt log
is_log_of desk doubt log (inl same) = inl same
is_log_of desk Sure log (inr e) = absurd cc
is_log_of desk (OneMore change) log (inr e) = inr cc
is_log_of desk (NewBase version) log (inr e) = inr cc

pub desk_bytes_open : DeskBytesOpen
desk_bytes_open desk log_bytes page_bytes mappings slots f lists pages holds = record {
  log = lists.log;
  lists = lists.lists;
  only = λ other that. one_log lists.log other log_bytes lists.lists that;
  opens = desk_opens desk f (record { log = lists.log; pages = block_at page_bytes; mappings = mappings; slots = slots }) (is_log_of desk desk.doubt lists.log lists.may) pages holds;
}
