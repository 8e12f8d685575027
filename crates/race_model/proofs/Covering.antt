-- What a failed call may leave covers what the devices might hold before the call and what they may hold behind it.
use Rattle.std.proofs.Common.{◌≡◌, ◌⊎◌, inl, inr, ◌∙◌, ℕ, suc, Bool, true, false, eqb, List, [], ◌∷◌, map, refl, sym, ap, subst, arith}
use Rattle.std.specs.Prelude.{Contains}
use Rattle.std.proofs.lemmas.Bool.{cases_eq, eq-eqb, ne_eqb, cond-true, cond-false, both_ways}
use Rattle.history.specs.declared.log.Log.{Log}
use Rattle.race_model.specs.Desk.{Doubt, Sure, Desk, IsInDoubt, IsLogOf, log_from}
use Rattle.race_model.specs.Vault.{Maplog, listing, trim_to, enter_into}
use Rattle.race_model.specs.Machine.{with_page, changed, cut}
use Rattle.race_model.specs.Laws.{FailuresCover, MaplogInVersion, in_version}
use Rattle.race_model.proofs.Grows.{contains_cons, contains_none}

-- a log in no doubt is its list
surely : (desk : Desk) (log : Log) → desk.doubt ≡ Sure → IsLogOf desk log → log ≡ log_from desk.version desk.history desk.past desk.rest
surely desk log sure (inl e) = e
surely desk log sure (inr in_doubt) = absurd (subst (λ (d : Doubt). IsInDoubt desk d log) sure in_doubt)

only : (maplog other : Maplog) (others : List Maplog) → others ≡ [] → (maplog ≡ other) ⊎ Contains others maplog → maplog ≡ other
only maplog other others none (inl e) = e
only maplog other others none (inr is) = absurd (contains_none maplog (subst (λ (l : List Maplog). Contains l maplog) none is))

-- a page that is sure behind a write is another one
other_page : (loose : ℕ → Bool) (page q : ℕ) → with_page loose page true q ≡ false → (eqb q page ≡ false) × (loose q ≡ false)
other_page loose page q sure = elim (cases_eq q page) [
  | inl is ↦ absurd (both_ways (with_page loose page true q) sure (cond-true (eqb q page) true (loose q) (eq-eqb q page is)))
  | inr differs ↦ (ne_eqb q page differs, sym (cond-false (eqb q page) true (loose q) (ne_eqb q page differs)) ∙ sure)
]

pub failures_cover : FailuresCover
failures_cover = record {
  change = λ m change sure. record {
    early = λ contents i. record { log = inl (surely m.desk contents.log sure i.log); pages = i.pages; version = i.version; maplog = i.maplog; slots = i.slots };
    late = λ contents i. record { log = inr (surely (changed m.desk change) contents.log sure i.log); pages = i.pages; version = i.version; maplog = i.maplog; slots = i.slots };
  };
  write = λ m page need left. record {
    early = λ contents i. record {
      log = i.log;
      pages = λ q firm. let other = other_page m.desk.loose page q firm in i.pages q other.1 ∙ sym (cond-false (eqb q page) left (m.desk.pages q) other.0);
      version = i.version;
      maplog = i.maplog;
      slots = i.slots;
    };
    late = λ contents i. record {
      log = i.log;
      pages = λ q firm. let other = other_page m.desk.loose page q firm in i.pages q firm ∙ cond-false (eqb q page) _ (m.desk.pages q) other.0 ∙ sym (cond-false (eqb q page) left (m.desk.pages q) other.0);
      version = i.version;
      maplog = i.maplog;
      slots = i.slots;
    };
  };
  settle = λ m. record {
    early = λ contents i. record { log = i.log; pages = i.pages; version = i.version; maplog = i.maplog; slots = i.slots };
    late = λ contents i. record { log = i.log; pages = λ q firm. i.pages q refl; version = i.version; maplog = i.maplog; slots = i.slots };
  };
  cut = λ m sure. record {
    early = λ contents i. record { log = inl (surely m.desk contents.log sure i.log); pages = i.pages; version = i.version; maplog = i.maplog; slots = i.slots };
    late = λ contents i. record { log = inr (surely (cut m.desk) contents.log sure i.log); pages = i.pages; version = i.version; maplog = i.maplog; slots = i.slots };
  };
  cut_in_version = λ m version sure.
      λ contents i. record { log = inr (surely (in_version version (cut m.desk)) contents.log sure i.log); pages = i.pages; version = i.version; maplog = i.maplog; slots = i.slots };
  lay = λ m batch slots left loose sure loosens outside outside_too. record {
    early = λ contents i. record {
      log = i.log;
      pages = i.pages;
      version = i.version;
      maplog = i.maplog;
      slots = λ slot firm. i.slots slot (loosens slot firm).1 ∙ sym (outside.same slot (loosens slot firm).0);
    };
    late = λ contents i. record {
      log = i.log;
      pages = i.pages;
      version = i.version;
      maplog = i.maplog;
      slots = λ slot firm.
          let free = (loosens slot firm).0 in
          i.slots slot (outside_too.sure slot free (loosens slot firm).1) ∙ outside_too.same slot free ∙ sym (outside.same slot free);
    };
  };
  enter = λ m batch none. record {
    early = λ contents i. record { log = i.log; pages = i.pages; version = i.version; maplog = inl (only (record { version = i.version; mappings = contents.mappings }) (listing m.vault m.vault.mappings) m.vault.others none i.maplog); slots = i.slots };
    late = λ contents i. record { log = i.log; pages = i.pages; version = i.version; maplog = inr (1, omega arith, sym (only (record { version = i.version; mappings = contents.mappings }) (listing m.vault (enter_into m.vault.mappings batch)) m.vault.others none i.maplog)); slots = i.slots };
  };
  enter_trimmed = λ m batch none.
      λ contents i. record { log = i.log; pages = i.pages; version = i.version; maplog = inr (0, omega arith, sym (only (record { version = i.version; mappings = contents.mappings }) (listing m.vault (trim_to m.vault.mappings batch.low)) m.vault.others none i.maplog)); slots = i.slots };
  trim = λ m low none. record {
    early = λ contents i. record { log = i.log; pages = i.pages; version = i.version; maplog = inl (only (record { version = i.version; mappings = contents.mappings }) (listing m.vault m.vault.mappings) m.vault.others none i.maplog); slots = i.slots };
    late = λ contents i. record { log = i.log; pages = i.pages; version = i.version; maplog = inr (0, omega arith, sym (only (record { version = i.version; mappings = contents.mappings }) (listing m.vault (trim_to m.vault.mappings low)) m.vault.others none i.maplog)); slots = i.slots };
  };
}

-- ---- the version of a Maplog

pub maplog_in_version : MaplogInVersion
maplog_in_version vault maplog (inl e) = inl (ap (λ (m : Maplog). m.version) e)
maplog_in_version vault maplog (inr is) = inr (versions vault.others is) where
  versions : (others : List Maplog) → Contains others maplog → Contains (map (λ (other : Maplog). other.version) others) maplog.version
  versions [] never = absurd (contains_none maplog never)
  versions (other ∷ others) is = elim (contains_cons other maplog others is) [
    | inl e ↦ (0, omega arith, ap (λ (m : Maplog). m.version) (sym e))
    | inr later ↦ let there = versions others later in (suc there.0, omega (arith, there.1), there.2)
  ]
