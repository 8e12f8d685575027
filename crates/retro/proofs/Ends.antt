-- What the status of a command tells.
use Rattle.std.proofs.Common.{◌≡◌, ◌∙◌, ◌⊎◌, ◌<◌, ◌-◌, ◌^◌, ap, ℕ, Bool, true, false, List, Option, Some, IfSome, Result, Ok, Err, inl, inr, refl, subst, sym, arith}
use Rattle.std.specs.Prelude.{◌==◌, ◌∷◌, [], IsTrue, MatchResult}
use Rattle.std.specs.List.{list_any}
use Rattle.disk_model.specs.Disk.{State}
use Rattle.disk_model.specs.Moments.{Clock}
use Rattle.disk_model.specs.declared.four.Four.{Four}
use Rattle.disk_model.specs.declared.four.Sizes.{Sizes}
use Rattle.retro_base.specs.declared.device.Device.{Device}
use Rattle.retro_base.specs.declared.limits.TheConstants.{MEMORY_PAGES}
use Rattle.retro_base.specs.declared.refusal.Refusal.{Refusal}
use Rattle.retro_base.specs.declared.refusal.Refusal.TheVariants as refusals
use Rattle.script.specs.Script.{ReadsAs}
use Rattle.script.specs.declared.structure.Script.{Script}
use Rattle.journal_law.specs.Lawful.{Opening}
use Rattle.session.specs.Plan.{Plan}
use Rattle.session.specs.Sql.{sql}
use Rattle.retro.specs.Asked.{AsksFor, BytesAsk, IsAsked, IsTheBadLine, IsTheScript, RefusesScript}
use Rattle.retro.specs.Formats.{MakesIn, StatusesOfFormatTellCauses, formatted_line}
use Rattle.retro.specs.Keeping.{CameTo, EndsRun, HasCausesIn, IsStatusBy, RunsOnStore, StatusesInTellCauses, ending_status, has_fault}
use Rattle.retro.specs.Loads.{EndsLoad, StatusesOfLoadTellCauses, load_source, load_text}
use Rattle.retro.specs.Memory.{RunsFrom, memory_opening}
use Rattle.retro.specs.Program.{EndsFrom, FeedsTold, HasCauses, RunsPlainly, StatusesTellCauses}
use Rattle.retro.specs.Says.{Ends, HasCausesOn, IsStatusOf, LacksMemory, Refuses, SinkTold, Writes, WritesOne}
use Rattle.retro.specs.Seen.{HasFailed, IsSteady, Seen}
use Rattle.retro.specs.Shows.{LooksIn, StatusesOfShowTellCauses, shown_text}
use Rattle.retro.specs.Storing.{IsPrinted}
use Rattle.retro.specs.declared.asking.NoPlan.{NoPlan}
use Rattle.retro.specs.declared.asking.NoPlan.TheVariants.{BadScript, OutOfMemory, SourceFault}
use Rattle.retro.specs.declared.storing.Ended.{Ended}

-- ---- what excludes what

not_failed : (it : Seen) → HasFailed it → IsSteady it → it.faults_old < 2 ^ 64 - 1 → ⊥
not_failed it failed steady few = omega (arith, failed, steady, few)

-- a script has no bad line
script_or_bad : (left : Option (List ℕ)) (bytes : List ℕ) (script : Script) (n : ℕ) → left ≡ Some bytes → IfSome left (IsTheBadLine n) → ReadsAs bytes (Ok script) → ⊥
script_or_bad left bytes script n e bad is =
    let here : IsTheBadLine n bytes = rw e at bad in
    let same : Ok script ≡ Err n = here.1 (Ok script) is in
    cc

-- bytes that are bad at a line ask for no plan
bad_or_plan : (left : Option (List ℕ)) (bytes : List ℕ) (plan : Plan) (n : ℕ) → left ≡ Some bytes → AsksFor left plan → ReadsAs bytes (Err n) → ⊥
bad_or_plan left bytes plan n e asks is =
    let here : IsTheScript asks.script bytes = rw e at asks.read in
    let same : Err n ≡ Ok asks.script = here.1 (Err n) is in
    cc

-- want of memory is no other status
neither_bad : (s : ℕ) → s ≡ 8 → (s ≡ 3) ⊎ (s ≡ 4) → ⊥
neither_bad s e (inl bad) = omega (arith, e, bad)
neither_bad s e (inr failed) = omega (arith, e, failed)

-- ---- what each status tells of source and sink

module _ (sink : Seen) where
  whole_told : IsSteady sink → SinkTold sink 0
  whole_told still = record { fault = λ e. absurd (omega (arith, e)); steady = λ e. still; no_fault = λ still few e. omega (arith, e) }

  front_told : HasFailed sink → SinkTold sink 5
  front_told failed = record { fault = λ e. failed; steady = λ e. absurd (omega (arith, e)); no_fault = λ still few e. not_failed sink failed still few }

  other_told : (s : ℕ) → (s ≡ 0 → ⊥) → (s ≡ 5 → ⊥) → SinkTold sink s
  other_told s not_whole not_front = record { fault = λ e. absurd (not_front e); steady = λ e. absurd (not_whole e); no_fault = λ still few. not_front }

module _ (source sink : Seen) where
  at_fault : HasFailed source → FeedsTold source sink 4
  at_fault failed = record {
    source_fault = λ e. failed;
    source_steady = λ other. absurd (other refl);
    no_source_fault = λ steady few e. not_failed source failed steady few;
    sink_told = other_told sink 4 (λ e. omega (arith, e)) (λ e. omega (arith, e));
    bad_script = λ e. absurd (omega (arith, e));
    good_script = λ bytes script e is s. omega (arith, s);
    bad_line = λ bytes n e is. inr (inl refl);
  }

  at_bad_line : IsSteady source → (n : ℕ) → IfSome source.bytes_old (IsTheBadLine n) → FeedsTold source sink 3
  at_bad_line steady n bad = record {
    source_fault = λ e. absurd (omega (arith, e));
    source_steady = λ other. steady;
    no_source_fault = λ steady few e. omega (arith, e);
    sink_told = other_told sink 3 (λ e. omega (arith, e)) (λ e. omega (arith, e));
    bad_script = λ e. (n, bad);
    good_script = λ bytes script e is s. script_or_bad source.bytes_old bytes script n e bad is;
    bad_line = λ bytes m e is. inl refl;
  }

  at_memory : IsSteady source → FeedsTold source sink 8
  at_memory steady = record {
    source_fault = λ e. absurd (omega (arith, e));
    source_steady = λ other. steady;
    no_source_fault = λ steady few e. omega (arith, e);
    sink_told = other_told sink 8 (λ e. omega (arith, e)) (λ e. omega (arith, e));
    bad_script = λ e. absurd (omega (arith, e));
    good_script = λ bytes script e is s. omega (arith, s);
    bad_line = λ bytes n e is. inr (inr refl);
  }

  -- behind a plan that was asked for
  module _ (steady : IsSteady source) (plan : Plan) (asks : AsksFor source.bytes_old plan) where
    at_end : (s : ℕ) → (s ≡ 3 → ⊥) → (s ≡ 4 → ⊥) → SinkTold sink s → FeedsTold source sink s
    at_end s not_bad not_source told = record {
      source_fault = λ e. absurd (not_source e);
      source_steady = λ other. steady;
      no_source_fault = λ steady few. not_source;
      sink_told = told;
      bad_script = λ e. absurd (not_bad e);
      good_script = λ bytes script e is. not_bad;
      bad_line = λ bytes n e is. absurd (bad_or_plan source.bytes_old bytes plan n e asks is);
    }

    whole : IsSteady sink → FeedsTold source sink 0
    whole still = at_end 0 (λ e. omega (arith, e)) (λ e. omega (arith, e)) (whole_told sink still)

    cut : HasFailed sink → FeedsTold source sink 5
    cut failed = at_end 5 (λ e. omega (arith, e)) (λ e. omega (arith, e)) (front_told sink failed)

    faulty : FeedsTold source sink 6
    faulty = at_end 6 (λ e. omega (arith, e)) (λ e. omega (arith, e)) (other_told sink 6 (λ e. omega (arith, e)) (λ e. omega (arith, e)))

    no_store : FeedsTold source sink 7
    no_store = at_end 7 (λ e. omega (arith, e)) (λ e. omega (arith, e)) (other_told sink 7 (λ e. omega (arith, e)) (λ e. omega (arith, e)))

-- ---- the law of `run`

module _ (source sink : Seen) (status : ℕ) where
  so : (number : ℕ) → status ≡ number → HasCauses source sink number → HasCauses source sink status
  so number is causes = subst (λ (n : ℕ). HasCauses source sink n) (sym is) causes

  lacks : IsSteady source → LacksMemory sink status → HasCauses source sink status
  lacks steady wanting = so 8 wanting.0 (record { statuses = refl; feeds = at_memory source sink steady; came = λ a b c. absurd (c refl) })

  refused : (why : NoPlan) → IsAsked source (Err why) → RefusesScript sink why status → HasCauses source sink status
  refused SourceFault asked ends = so 4 ends.0 (record { statuses = refl; feeds = at_fault source sink asked; came = λ a b c. absurd (b refl) })
  refused (BadScript n) asked (inl said) = so 3 said.0 (record { statuses = refl; feeds = at_bad_line source sink asked.1 n asked.0; came = λ a b c. absurd (a refl) })
  refused (BadScript n) asked (inr wanting) = lacks asked.1 wanting
  refused OutOfMemory asked ends = lacks asked ends

  module _ (plan : Plan) (asked : IsAsked source (Ok plan)) where
    written : (text : List ℕ) → Writes sink text status → HasCauses source sink status
    written text (inl all) = so 0 all.0 (record { statuses = refl; feeds = whole source sink asked.2 plan asked.0 all.2; came = λ a b c. (plan, asked.0) })
    written text (inr (inl part)) = so 5 part.0 (record { statuses = refl; feeds = cut source sink asked.2 plan asked.0 part.2; came = λ a b c. (plan, asked.0) })
    written text (inr (inr wanting)) = lacks asked.2 wanting

    ended : (size : ℕ) (o : Opening (sql size)) (result : Result Ended Refusal) → RunsFrom size o plan result → EndsFrom size o sink plan result status → HasCauses source sink status
    ended size o (Ok left) ran (inl (text, is, writes)) = written text writes
    ended size o (Ok left) ran (inr wanting) = lacks asked.2 wanting
    ended size o (Err why) is ends = lacks asked.2 (subst (λ (w : Refusal). Refuses sink w status) is ends)

  told : (size : ℕ) (o : Opening (sql size)) → RunsPlainly size o source sink status → HasCauses source sink status
  told size o runs = by_case runs.asked runs.is_asked runs.runs
    where
      by_case : (asked : Result Plan NoPlan) → IsAsked source asked → MatchResult asked (λ plan. (result : Result Ended Refusal) × RunsFrom size o plan result × EndsFrom size o sink plan result status) (λ why. RefusesScript sink why status)
          → HasCauses source sink status
      by_case (Ok plan) asked ran = ended plan asked size o ran.0 ran.1 ran.2
      by_case (Err why) asked ends = refused why asked ends

pub statuses_tell_causes : StatusesTellCauses
statuses_tell_causes size o source sink status runs = told source sink status size o runs

-- ---- the law of `run DIR`

-- the status of a run that left this
abbrev IsOf : Seen → Ended → ℕ → Type 0
IsOf sink ended = IsStatusBy (has_fault ended.journal) sink ended

-- the status of a run whose transcript was written whole, in part, or not
all_written : (sink : Seen) (ended : Ended) (fault copied : Bool) → IsSteady sink → has_fault ended.journal ≡ fault → ended.copied ≡ copied → (ending_status ended 0 ≡ 8) ⊎ ((s : ℕ) × (ending_status ended 0 ≡ s) × IsOf sink ended s × ((s ≡ 0) ⊎ (s ≡ 6)))
all_written sink ended true copied still e all = inr (6, rw e refl, rw e (inl (refl, still)), inr refl)
all_written sink ended false true still e all = inr (0, rw (e, all) refl, rw (e, all) (inl (refl, refl)), inl refl)
all_written sink ended false false still e all = inl (rw (e, all) refl)

part_written : (sink : Seen) (ended : Ended) (fault copied : Bool) → has_fault ended.journal ≡ fault → ended.copied ≡ copied → (ending_status ended 5 ≡ 5) × IsOf sink ended 5
part_written sink ended true copied e all = (rw e refl, rw e (inr refl))
part_written sink ended false true e all = (rw (e, all) refl, rw (e, all) (inr refl))
part_written sink ended false false e all = (rw (e, all) refl, rw (e, all) (inr refl))

none_written : (ended : Ended) (fault copied : Bool) → has_fault ended.journal ≡ fault → ended.copied ≡ copied → ending_status ended 8 ≡ 8
none_written ended true copied e all = rw e refl
none_written ended false true e all = rw (e, all) refl
none_written ended false false e all = rw (e, all) refl

module _ {C D : Type 0} (faults : C → ℕ) (is_out : C → List ℕ → Type 0) (tells : C → Type 0) (store : C → List ℕ → Option (Four D)) (extent device_faults : D → ℕ) (is_honest : D → Type 0) (remembers : Type 0) (state : D → State) (clock : D → Clock)
    (dir : List ℕ) (source sink : Seen) (old new : C) (status : ℕ) where
  abbrev Causes : ℕ → Type 0
  Causes s = HasCausesIn faults is_out tells store extent device_faults is_honest remembers state clock dir source sink old new s

  abbrev Came : ℕ → Type 0
  Came s = CameTo faults is_out tells store extent device_faults is_honest remembers state clock dir source sink old new s

  abbrev Ran : Plan → Result Ended Refusal → Type 0
  Ran plan result = RunsOnStore faults is_out tells store extent device_faults is_honest remembers state clock dir plan old new result

  is_so : (number : ℕ) → status ≡ number → Causes number → Causes status
  is_so number is causes = subst Causes (sym is) causes

  lacking : IsSteady source → LacksMemory sink status → Causes status
  lacking steady wanting = is_so 8 wanting.0 (record {
    statuses = refl;
    feeds = at_memory source sink steady;
    untouched = λ e. absurd (neither_bad 8 refl e);
    came = λ a b c. absurd (c refl);
  })

  no_plan : (why : NoPlan) → IsAsked source (Err why) → new ≡ old → RefusesScript sink why status → Causes status
  no_plan SourceFault asked same ends = is_so 4 ends.0 (record { statuses = refl; feeds = at_fault source sink asked; untouched = λ e. same; came = λ a b c. absurd (b refl) })
  no_plan (BadScript n) asked same (inl said) = is_so 3 said.0 (record { statuses = refl; feeds = at_bad_line source sink asked.1 n asked.0; untouched = λ e. same; came = λ a b c. absurd (a refl) })
  no_plan (BadScript n) asked same (inr wanting) = lacking asked.1 wanting
  no_plan OutOfMemory asked same ends = lacking asked ends

  module _ (plan : Plan) (asked : IsAsked source (Ok plan)) where
    reached : (s : ℕ) → IsTrue (list_any (λ one. one == s) (0 ∷ 3 ∷ 4 ∷ 5 ∷ 6 ∷ 7 ∷ 8 ∷ [])) → FeedsTold source sink s → (s ≡ 3 → ⊥) → (s ≡ 4 → ⊥) → (result : Result Ended Refusal) → Ran plan result → IsStatusOf (IsOf sink) result s → Causes s
    reached s one feeds not_bad not_source result ran is = record {
      statuses = one;
      feeds = feeds;
      untouched = λ e. absurd (neither e);
      came = λ a b c. record { plan = plan; asks = asked.0; result = result; ran = ran; is = is };
    }
      where
        neither : (s ≡ 3) ⊎ (s ≡ 4) → ⊥
        neither (inl e) = not_bad e
        neither (inr e) = not_source e

    module _ (ended : Ended) (ran : Ran plan (Ok ended)) (written : ℕ) (is : status ≡ ending_status ended written) where
      at_whole : written ≡ 0 → IsSteady sink → Causes status
      at_whole none still = by_case (all_written sink ended (has_fault ended.journal) ended.copied still refl refl)
        where
          here : (s : ℕ) → ending_status ended 0 ≡ s → status ≡ s
          here s e = is ∙ ap (λ (w : ℕ). ending_status ended w) none ∙ e

          by_case : (ending_status ended 0 ≡ 8) ⊎ ((s : ℕ) × (ending_status ended 0 ≡ s) × IsOf sink ended s × ((s ≡ 0) ⊎ (s ≡ 6))) → Causes status
          by_case (inl e) = is_so 8 (here 8 e) (record { statuses = refl; feeds = at_memory source sink asked.2; untouched = λ e. absurd (neither_bad 8 refl e); came = λ a b c. absurd (c refl) })
          by_case (inr (s, e, of, inl zero)) =
              is_so 0 (here s e ∙ zero) (reached 0 refl (whole source sink asked.2 plan asked.0 still) (λ x. omega (arith, x)) (λ x. omega (arith, x)) (Ok ended) ran (subst (λ (n : ℕ). IsOf sink ended n) zero of))
          by_case (inr (s, e, of, inr six)) =
              is_so 6 (here s e ∙ six) (reached 6 refl (faulty source sink asked.2 plan asked.0) (λ x. omega (arith, x)) (λ x. omega (arith, x)) (Ok ended) ran (subst (λ (n : ℕ). IsOf sink ended n) six of))

      at_part : written ≡ 5 → HasFailed sink → Causes status
      at_part five failed =
          let one = part_written sink ended (has_fault ended.journal) ended.copied refl refl in
          is_so 5 (is ∙ ap (λ (w : ℕ). ending_status ended w) five ∙ one.0) (reached 5 refl (cut source sink asked.2 plan asked.0 failed) (λ x. omega (arith, x)) (λ x. omega (arith, x)) (Ok ended) ran one.1)

      at_none : LacksMemory sink written → Causes status
      at_none wanting = lacking asked.2 (is ∙ ap (λ (w : ℕ). ending_status ended w) wanting.0 ∙ none_written ended (has_fault ended.journal) ended.copied refl refl, wanting.1)

      by_text : WritesOne sink (IsPrinted plan ended) written → Causes status
      by_text (inl (text, printed, inl all)) = at_whole all.0 all.2
      by_text (inl (text, printed, inr (inl part))) = at_part part.0 part.2
      by_text (inl (text, printed, inr (inr wanting))) = at_none wanting
      by_text (inr wanting) = at_none wanting

    by_refusal : (why : Refusal) → Ran plan (Err why) → Refuses sink why status → Causes status
    by_refusal (refusals.DiskFault device count) ran (inl said) =
        is_so 6 said.0 (reached 6 refl (faulty source sink asked.2 plan asked.0) (λ x. omega (arith, x)) (λ x. omega (arith, x)) (Err (refusals.DiskFault device count)) ran refl)
    by_refusal (refusals.DiskFault device count) ran (inr wanting) = lacking asked.2 wanting
    by_refusal (refusals.NotAStore device place) ran (inl said) =
        is_so 7 said.0 (reached 7 refl (no_store source sink asked.2 plan asked.0) (λ x. omega (arith, x)) (λ x. omega (arith, x)) (Err (refusals.NotAStore device place)) ran refl)
    by_refusal (refusals.NotAStore device place) ran (inr wanting) = lacking asked.2 wanting
    by_refusal refusals.OutOfMemory ran wanting = lacking asked.2 wanting
    by_refusal why ran ends = absurd ends

    by_result : (result : Result Ended Refusal) → Ran plan result → EndsRun sink plan result status → Causes status
    by_result (Ok ended) ran (written, writes, is) = by_text ended ran written is writes
    by_result (Err why) ran ends = by_refusal why ran ends

  pub statuses_in_tell_causes : StatusesInTellCauses faults is_out tells store extent device_faults is_honest remembers state clock dir source sink old new status
  statuses_in_tell_causes runs = by_asked runs.asked runs.is_asked runs.runs
    where
      by_asked : (asked : Result Plan NoPlan) → IsAsked source asked
          → MatchResult asked (λ plan. (result : Result Ended Refusal) × Ran plan result × EndsRun sink plan result status) (λ why. (new ≡ old) × RefusesScript sink why status) → Causes status
      by_asked (Ok plan) asked ran = by_result plan asked ran.0 ran.1 ran.2
      by_asked (Err why) asked ends = no_plan why asked ends.0 ends.1

-- ---- the laws of `format` and `show`

module _ {A : Type 0} (those : List ℕ) (Came : Result A Refusal → Type 0) (text : A → List ℕ) (sink : Seen) (status : ℕ) where
  abbrev On : ℕ → Type 0
  On s = HasCausesOn those Came text sink s

  abbrev IsIn : ℕ → Type 0
  IsIn s = IsTrue (list_any (λ one. one == s) those)

  is_on : (number : ℕ) → status ≡ number → On number → On status
  is_on number is causes = subst On (sym is) causes

  module _ (whole : IsIn 0) (front : IsIn 5) (fault : IsIn 6) (no_store : (device : Device) (place : ℕ) → Came (Err (refusals.NotAStore device place)) → IsIn 7) (wanting : IsIn 8) where
    at_wanting : LacksMemory sink status → On status
    at_wanting lacks = is_on 8 lacks.0 (record { statuses = wanting; sink_told = other_told sink 8 (λ e. omega (arith, e)) (λ e. omega (arith, e)); came = λ other. absurd (other refl) })

    at_found : (found : A) → Came (Ok found) → Writes sink (text found) status → On status
    at_found found came (inl all) = is_on 0 all.0 (record { statuses = whole; sink_told = whole_told sink all.2; came = λ other. (Ok found, came, inl (refl, all.1)) })
    at_found found came (inr (inl part)) = is_on 5 part.0 (record { statuses = front; sink_told = front_told sink part.2; came = λ other. (Ok found, came, inr (refl, part.1)) })
    at_found found came (inr (inr lacks)) = at_wanting lacks

    at_refusal : (why : Refusal) → Came (Err why) → Refuses sink why status → On status
    at_refusal (refusals.DiskFault device count) came (inl said) =
        is_on 6 said.0 (record { statuses = fault; sink_told = other_told sink 6 (λ e. omega (arith, e)) (λ e. omega (arith, e)); came = λ other. (Err (refusals.DiskFault device count), came, refl) })
    at_refusal (refusals.DiskFault device count) came (inr lacks) = at_wanting lacks
    at_refusal (refusals.NotAStore device place) came (inl said) =
        is_on 7 said.0 (record { statuses = no_store device place came; sink_told = other_told sink 7 (λ e. omega (arith, e)) (λ e. omega (arith, e)); came = λ other. (Err (refusals.NotAStore device place), came, refl) })
    at_refusal (refusals.NotAStore device place) came (inr lacks) = at_wanting lacks
    at_refusal refusals.OutOfMemory came lacks = at_wanting lacks
    at_refusal why came ends = absurd ends

    told_by : (result : Result A Refusal) → Came result → Ends sink text result status → On status
    told_by (Ok found) came ends = at_found found came ends
    told_by (Err why) came ends = at_refusal why came ends

module _ {C D : Type 0} (faults : C → ℕ) (is_out : C → List ℕ → Type 0) (tells : C → Type 0) (store : C → List ℕ → Option (Four D)) (extent device_faults : D → ℕ) (is_honest : D → Type 0) where
  -- what is made is not refused as no store's
  made_store : (state : D → State) (dir : List ℕ) (sizes : Sizes) (old new : C) (device : Device) (place : ℕ) → MakesIn faults is_out tells store extent device_faults is_honest state dir sizes old new (Err (refusals.NotAStore device place)) → ⊥
  made_store state dir sizes old new device place (inl none) = none.fault
  made_store state dir sizes old new device place (inr made) = made.3.cause.1

  pub statuses_of_format_tell_causes : (state : D → State) (dir : List ℕ) (sizes : Sizes) (sink : Seen) (old new : C) (status : ℕ)
      → StatusesOfFormatTellCauses faults is_out tells store extent device_faults is_honest state dir sizes sink old new status
  statuses_of_format_tell_causes state dir sizes sink old new status formats =
      told_by (0 ∷ 5 ∷ 6 ∷ 8 ∷ []) (MakesIn faults is_out tells store extent device_faults is_honest state dir sizes old new) (λ _. formatted_line sizes) sink status
      refl refl refl (λ device place made. absurd (made_store state dir sizes old new device place made)) refl formats.made formats.makes formats.ends

  pub statuses_of_show_tell_causes : (remembers : Type 0) (state : D → State) (clock : D → Clock) (dir : List ℕ) (sink : Seen) (old new : C) (status : ℕ)
      → StatusesOfShowTellCauses faults is_out tells store extent device_faults is_honest remembers state clock dir sink old new status
  statuses_of_show_tell_causes remembers state clock dir sink old new status shows =
      told_by (0 ∷ 5 ∷ 6 ∷ 7 ∷ 8 ∷ []) (LooksIn faults is_out tells store extent device_faults is_honest remembers state clock dir old new) shown_text sink status
      refl refl refl (λ device place found. refl) refl shows.found shows.looks shows.ends

-- ---- the law of `load`

module _ (seed rounds : ℕ) (sink : Seen) (status : ℕ) where
  asked_load : (asked : Result Plan NoPlan) → BytesAsk (load_text seed rounds) asked → IsAsked (load_source seed rounds) asked
  asked_load (Ok plan) asks = (asks, refl, refl)
  asked_load (Err (BadScript n)) bad = (bad, refl)
  asked_load (Err OutOfMemory) asks = refl
  asked_load (Err SourceFault) asks = absurd asks

  module _ (plan : Plan) (asked : IsAsked (load_source seed rounds) (Ok plan)) where
    ended_load : (result : Result Ended Refusal) → RunsFrom MEMORY_PAGES memory_opening plan result → EndsLoad seed rounds sink plan result status → HasCauses (load_source seed rounds) sink status
    ended_load (Ok left) ran (inl (text, is, writes)) = written (load_source seed rounds) sink status plan asked text writes
    ended_load (Ok left) ran (inr wanting) = lacks (load_source seed rounds) sink status refl wanting
    ended_load (Err why) is ends = lacks (load_source seed rounds) sink status refl (subst (λ (w : Refusal). Refuses sink w status) is ends)

  by_plan : (asked : Result Plan NoPlan) → IsAsked (load_source seed rounds) asked
      → MatchResult asked (λ plan. (result : Result Ended Refusal) × RunsFrom MEMORY_PAGES memory_opening plan result × EndsLoad seed rounds sink plan result status) (λ why. RefusesScript sink why status) → HasCauses (load_source seed rounds) sink status
  by_plan (Ok plan) asked ran = ended_load plan asked ran.0 ran.1 ran.2
  by_plan (Err why) asked ends = refused (load_source seed rounds) sink status why asked ends

pub statuses_of_load_tell_causes : StatusesOfLoadTellCauses
statuses_of_load_tell_causes seed rounds sink status loads =
    let causes = by_plan seed rounds sink status loads.asked (asked_load seed rounds sink status loads.asked loads.is_asked) loads.runs in
    (causes, causes.feeds.no_source_fault refl (omega arith))
