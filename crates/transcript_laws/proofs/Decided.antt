-- What the lines that are shown decide of two lawful journals.
use Rattle.std.proofs.Common.{◌≡◌, ◌+◌, ◌++◌, ℕ, Bool, true, false, cond, List, [], ◌∷◌, Option, Some, None, map, filter, refl, ap, sym, subst, ◌∙◌, append_assoc, append-nil}
use Rattle.std.specs.Prelude.{not, option_map}
use Rattle.std.specs.Option.{option_map_or}
use Rattle.std.specs.List.{AllByRecursion}
use Rattle.retro_base.specs.Refusal.{number_of}
use Rattle.retro_base.specs.declared.device.Device.{Device}
use Rattle.retro_base.specs.declared.refusal.Refusal.{Refusal}
use Rattle.retro_base.specs.declared.refusal.Refusal.TheVariants.{DiskFault, JournalFull}
use Rattle.retro_base.specs.declared.who.Who.{Who}
use Rattle.history.specs.declared.journal.Line.{Line}
use Rattle.history.specs.declared.journal.What.{What}
use Rattle.history.specs.declared.journal.What.TheVariants.{Began, Done, Overlapped, RolledBack, Looked, LookedAll, Unlooked, Dropped, Refused, Fault}
use Rattle.history.specs.Sound.{same_item}
use Rattle.journal_law.specs.Fates.{Fate, answer_text, began_at, began_of, fate, fate_behind, fate_with, reply, reply_at}
use Rattle.journal_law.specs.Language.{Commit, Kind, Language, Lineless, Transaction, answer}
use Rattle.journal_law.specs.Lawful.{CommitsAs, IsEnding, IsRun, Lawful, Opening, QueryAt, RulesAt, answered_by, at_drop}
use Rattle.journal_law.specs.Own.{is_looked, is_looking, last_behind, line, own}
use Rattle.journal_law.specs.Shows.{step, world}
use Rattle.journal_law.specs.World.{World, newest}
use Rattle.journal_law.proofs.Lasts.{fate_last}
use Rattle.transcript_laws.specs.Shown.{Shown, hides_values, shown, shown_lines, tells_reply}
use Rattle.transcript_laws.specs.Shown as seen
use Rattle.transcript_laws.proofs.Pinned.{pinned_alike}
use Rattle.transcript_laws.proofs.Places.{place_of}
use Rattle.transcript_laws.proofs.Redrawn.{Ends, IsShown, Seen, began_seen, ends_in, fate_alike, label_of, opens, plain, seen_by, world_alike}
use Rattle.transcript_laws.proofs.Refusals.{HasLines, IsRefused, refused_same}
use Rattle.transcript_laws.proofs.Runs.{NoTransaction, closes, own_behind, own_split, run_shown, shown_front}

-- ---- lines by what is shown of them

closes_shown : (what : What) (said : Shown) → shown what ≡ Some said → opens (Some said) ≡ false → closes what ≡ true
closes_shown Began said e ends = cc
closes_shown (Overlapped session item) said e ends = cc
closes_shown (Looked snapshot) said e ends = sym (ap opens e ∙ ends)
closes_shown LookedAll said e ends = sym (ap opens e ∙ ends)
closes_shown what said e ends = refl

tells_ends : (said : Shown) → tells_reply said ≡ true → opens (Some said) ≡ false
tells_ends (seen.Looked snapshot) tells = cc
tells_ends seen.LookedAll tells = cc
tells_ends said tells = refl

is_rolled : (what : What) → shown what ≡ Some seen.RolledBack → what ≡ RolledBack
is_rolled RolledBack e = refl
is_rolled what e = cc

is_unlooked : (what : What) → shown what ≡ Some seen.Unlooked → what ≡ Unlooked
is_unlooked Unlooked e = refl
is_unlooked what e = cc

is_refused : (what : What) (number : ℕ) → shown what ≡ Some (seen.RefusedBy number) → (why : Refusal)
    × (what ≡ Refused why) × (number_of why ≡ number)
is_refused (Refused why) number e =
    let is : number_of why ≡ number = cc in
    (why, refl, is)
is_refused what number e = cc

label_is : (kind : Option Kind) (label : Option (List ℕ)) → CommitsAs label kind → label ≡ label_of kind
label_is (Some (Transaction (Commit given))) label e = e
label_is kind label e = absurd e

has_lines : (kind : Kind) (before : List What) (what : What) (after : List What) → IsRun kind (before ++ what ∷ after)
    → HasLines kind
has_lines Lineless [] what after run = absurd run
has_lines Lineless (b ∷ before) what after run = absurd run
has_lines kind before what after run = tt

not_true : (b : Bool) → not b ≡ true → b ≡ false
not_true true e = cc
not_true false e = refl

looked_shown : (what : What) → is_looked (Some what) ≡ opens (option_map plain (shown what))
looked_shown Began = refl
looked_shown what = refl

looks : (L : Language) (item : L.Item) (kind : Kind) (looking : Bool) (looked : Option (World L.Tables))
    → answered_by L item kind looking looked → NoTransaction kind
looks L item (Transaction end) looking looked is = absurd is
looks L item kind looking looked is = tt

module _ (L : Language) (items : Who → Option L.Item) where
  last_fate : (who : Who) (now : World L.Tables) (known : Option (Fate L.Tables)) (lines : List Line)
      → last_behind (option_map (λ (f : Fate L.Tables). f.last) known) (own who lines)
      ≡ option_map (λ (f : Fate L.Tables). f.last) (fate_behind L items who now known lines)
  last_fate who now known [] = refl
  last_fate who now known (l ∷ lines) = by_test (same_item l.who who)
      (λ more. last_fate who (step L items now l) more lines)
    where
      by_test : (mine : Bool)
          → ((more : Option (Fate L.Tables))
          → last_behind (option_map (λ (f : Fate L.Tables). f.last) more) (own who lines)
          ≡ option_map (λ (f : Fate L.Tables). f.last) (fate_behind L items who (step L items now l) more lines))
          → last_behind (option_map (λ (f : Fate L.Tables). f.last) known)
          (map (λ (x : Line). x.what) (cond mine (l ∷ filter (λ (x : Line). same_item x.who who) lines)
          (filter (λ (x : Line). same_item x.who who) lines)))
          ≡ option_map (λ (f : Fate L.Tables). f.last)
          (fate_behind L items who (step L items now l) (cond mine (Some (fate_with now l.what known)) known) lines)
      by_test true rest = rest (Some (fate_with now l.what known))
      by_test false rest = rest known

  -- an item is looking by what is shown of its last line
  looking_alike : (who : Who) (now : World L.Tables) (one other : List Line)
      → option_map seen_by (fate L items who now one) ≡ option_map seen_by (fate L items who now other)
      → is_looking who one ≡ is_looking who other
  looking_alike who now one other same =
      ap is_looked (last_fate who now None one)
      ∙ looked_same (fate L items who now one) (fate L items who now other) same
      ∙ sym (ap is_looked (last_fate who now None other))
    where
      looked_same : (f g : Option (Fate L.Tables)) → option_map seen_by f ≡ option_map seen_by g
          → is_looked (option_map (λ (x : Fate L.Tables). x.last) f)
          ≡ is_looked (option_map (λ (x : Fate L.Tables). x.last) g)
      looked_same None None same = refl
      looked_same None (Some g) same = cc
      looked_same (Some f) None same = cc
      looked_same (Some f) (Some g) same =
          let is : seen_by f ≡ seen_by g = cc in
          looked_shown f.last ∙ ap (λ (s : Seen L.Tables). opens s.last) is ∙ sym (looked_shown g.last)

  module _ (o : Opening L) where
    -- ---- a line that ends an item, at its place

    pub record Stands (journal : List Line) (who : Who) (item : L.Item) (front : List (Who × Shown))
        (said : Shown) : Type 0 where
      pub before : List Line
      pub what : What
      pub after : List Line
      pub whole : journal ≡ before ++ line who what ∷ after
      pub is : shown what ≡ Some said
      pub in_front : shown_lines before ≡ front
      pub none : own who after ≡ []
      pub rules : RulesAt L items o before who (Some item) (world L items o.tables before) what
      pub run : IsRun (L.kind item) (own who before ++ what ∷ own who after)
      pub ends : AllByRecursion (Ends L items) before

    standing : (ending : Device → ℕ) (journal : List Line) (who : Who) (item : L.Item)
        (front rest : List (Who × Shown)) (said : Shown)
        → Lawful L items o ending journal → items who ≡ Some item → shown_lines journal ≡ front ++ (who, said) ∷ rest
        → opens (Some said) ≡ false → Stands journal who item front said
    standing ending journal who item front rest said lawful is e ends =
        let p = place_of journal front rest who said e in
        let run : IsRun (L.kind item) (own who (p.before ++ line who p.what ∷ p.after)) =
        subst (λ (ls : List Line). IsRun (L.kind item) (own who ls)) p.whole
        ((lawful.shape.sessions who.session).runs who item refl is) in
        record {
          before = p.before;
          what = p.what;
          after = p.after;
          whole = p.whole;
          is = p.is;
          in_front = p.in_front;
          none = own_behind (L.kind item) who p.before p.after p.what run (closes_shown p.what said p.is ends);
          rules =
              subst (λ (one : Option L.Item). RulesAt L items o p.before who one
              (world L items o.tables p.before) p.what) is
              (lawful.at_each p.before p.after (line who p.what) p.whole);
          run = subst (IsRun (L.kind item)) (own_split who p.before p.after p.what) run;
          ends = ends_in L items o journal lawful.at_each [] p.before (line who p.what ∷ p.after) p.whole;
        }

    module _ (who : Who) (item : L.Item) where
      -- the reply that a line tells but a refusal, in this world, where the look began in that one
      abbrev plain_reply : World L.Tables → World L.Tables → Option Shown → List ℕ
      plain_reply now began (Some (seen.Done declares)) = L.replies item now.current ++ (L.words item).committed
          (newest now + 1) (label_of (Some (L.kind item)))
      plain_reply now began (Some seen.Unlooked) = answer_text L item (answer L item began)
      plain_reply now began (Some (seen.DroppedBelow below)) = (L.words item).dropped below
      plain_reply now began (Some (seen.Faulted device count)) = (L.words item).refused (DiskFault device count)
      plain_reply now began said = []

      abbrev IsPlain : Option Shown → Type 0
      IsPlain (Some (seen.Done declares)) = Unit {0}
      IsPlain (Some seen.Unlooked) = Unit {0}
      IsPlain (Some (seen.DroppedBelow below)) = Unit {0}
      IsPlain (Some (seen.Faulted device count)) = Unit {0}
      IsPlain said = ⊥

      reply_plain : (what : What) (f : Fate L.Tables) → IsEnding (Some (L.kind item)) what → IsPlain (shown what)
          → reply_at L item f what ≡ plain_reply f.now (began_at f) (shown what)
      reply_plain (Done label writes) f ending is =
          ap (λ (l : Option (List ℕ)). L.replies item f.now.current ++ (L.words item).committed (newest f.now + 1) l)
          (label_is (Some (L.kind item)) label ending)
      reply_plain Unlooked f ending is = refl
      reply_plain (Dropped below) f ending is = refl
      reply_plain (Fault device count call) f ending is = refl
      reply_plain what f ending is = absurd is

      module _ (journal : List Line) (front : List (Who × Shown)) (said : Shown)
          (s : Stands journal who item front said) where
        abbrev now_there : World L.Tables
        now_there = world L items o.tables s.before

        abbrev fate_there : Fate L.Tables
        fate_there = fate_with now_there s.what (fate L items who o.tables s.before)

        fate_is : fate L items who o.tables journal ≡ Some fate_there
        fate_is =
            fate_last L items who s.what o.tables journal s.before s.after
            (record { whole = s.whole ∙ sym (append_assoc s.before (line who s.what ∷ []) s.after); none = s.none })

        reply_there : reply L item (fate L items who o.tables journal) ≡ reply_at L item fate_there s.what
        reply_there = ap (reply L item) fate_is

        plain_there : IsPlain (Some said) → reply L item (fate L items who o.tables journal)
            ≡ plain_reply now_there (began_at fate_there) (Some said)
        plain_there is =
            reply_there
            ∙ reply_plain s.what fate_there s.rules.ending (subst IsPlain (sym s.is) is)
            ∙ ap (plain_reply now_there (began_at fate_there)) s.is

      -- ---- in two journals

      module _ (one other : List Line) (front : List (Who × Shown)) where
        worlds_there : (said : Shown) (s : Stands one who item front said) (t : Stands other who item front said)
            → now_there one front said s ≡ now_there other front said t
        worlds_there said s t = world_alike L items o.tables s.before t.before s.ends t.ends
            (s.in_front ∙ sym t.in_front)

        -- what became of an item that is no transaction, before
        seen_there : (said : Shown) (s : Stands one who item front said) (t : Stands other who item front said)
            → NoTransaction (L.kind item)
            → option_map seen_by (fate L items who o.tables s.before)
            ≡ option_map seen_by (fate L items who o.tables t.before)
        seen_there said s t reads =
            fate_alike L items who o.tables s.before t.before s.ends t.ends
            (shown_front (own who s.before) (s.what ∷ own who s.after)
            (run_shown (L.kind item) (own who s.before ++ s.what ∷ own who s.after) reads s.run))
            (shown_front (own who t.before) (t.what ∷ own who t.after)
            (run_shown (L.kind item) (own who t.before ++ t.what ∷ own who t.after) reads t.run))
            (s.in_front ∙ sym t.in_front)

        -- an answered look is no transaction
        looks_there : (journal : List Line) (s : Stands journal who item front seen.Unlooked)
            → NoTransaction (L.kind item)
        looks_there journal s =
            let looked = began_of (fate L items who o.tables s.before) in
            looks L item (L.kind item) (is_looking who s.before) looked
            (subst (QueryAt L (Some item) looked (is_looking who s.before)) (is_unlooked s.what s.is) s.rules.query)

        began_there : (journal : List Line) (s : Stands journal who item front seen.Unlooked)
            → began_at (fate_there journal front seen.Unlooked s)
            ≡ option_map_or (λ (w : World L.Tables). w) (began_of (fate L items who o.tables s.before))
            (now_there journal front seen.Unlooked s)
        began_there journal s =
            ap (λ (what : What). began_at (fate_with (now_there journal front seen.Unlooked s) what
            (fate L items who o.tables s.before))) (is_unlooked s.what s.is)

        began_same : (s : Stands one who item front seen.Unlooked) (t : Stands other who item front seen.Unlooked)
            → began_at (fate_there one front seen.Unlooked s) ≡ began_at (fate_there other front seen.Unlooked t)
        began_same s t =
            began_there one s
            ∙ ap (λ (w : World L.Tables). option_map_or (λ (x : World L.Tables). x)
            (began_of (fate L items who o.tables s.before)) w) (worlds_there seen.Unlooked s t)
            ∙ ap (λ (b : Option (World L.Tables)). option_map_or (λ (x : World L.Tables). x) b
            (now_there other front seen.Unlooked t))
            (began_seen (fate L items who o.tables s.before) (fate L items who o.tables t.before)
            (seen_there seen.Unlooked s t (looks_there one s)))
            ∙ sym (began_there other t)

        plain_same : (said : Shown) (s : Stands one who item front said) (t : Stands other who item front said)
            → IsPlain (Some said)
            → reply L item (fate L items who o.tables one) ≡ reply L item (fate L items who o.tables other)
        plain_same (seen.Done declares) s t is =
            plain_there one front (seen.Done declares) s tt
            ∙ ap (λ (w : World L.Tables). L.replies item w.current ++ (L.words item).committed (newest w + 1)
            (label_of (Some (L.kind item)))) (worlds_there (seen.Done declares) s t)
            ∙ sym (plain_there other front (seen.Done declares) t tt)
        plain_same seen.Unlooked s t is =
            plain_there one front seen.Unlooked s tt
            ∙ ap (λ (w : World L.Tables). answer_text L item (answer L item w)) (began_same s t)
            ∙ sym (plain_there other front seen.Unlooked t tt)
        plain_same (seen.DroppedBelow below) s t is =
            plain_there one front (seen.DroppedBelow below) s tt
            ∙ sym (plain_there other front (seen.DroppedBelow below) t tt)
        plain_same (seen.Faulted device count) s t is =
            plain_there one front (seen.Faulted device count) s tt
            ∙ sym (plain_there other front (seen.Faulted device count) t tt)
        plain_same said s t is = absurd is

        refused_there : (journal : List Line) (said : Shown) (s : Stands journal who item front said) (why : Refusal)
            → s.what ≡ Refused why
            → IsRefused L item o.opened who (L.kind item) s.before (now_there journal front said s)
            (at_drop o.opened.pages (now_there journal front said s) s.before)
            (is_looking who s.before) (began_of (fate L items who o.tables s.before)) why
        refused_there journal said s why is =
            let r : RulesAt L items o s.before who (Some item) (now_there journal front said s) (Refused why) =
            subst (RulesAt L items o s.before who (Some item) (now_there journal front said s)) is s.rules in
            record { query = r.query; snapshot = r.snapshot; limit = r.limit }

        refused_alike : (number : ℕ) (s : Stands one who item front (seen.RefusedBy number))
            (t : Stands other who item front (seen.RefusedBy number))
            → hides_values number ≡ false →
            ((a b c d : ℕ) → (L.words item).refused (JournalFull a b) ≡ (L.words item).refused (JournalFull c d))
            → reply L item (fate L items who o.tables one) ≡ reply L item (fate L items who o.tables other)
        refused_alike number s t tells full =
            let said = seen.RefusedBy number in
            let a = is_refused s.what number s.is in
            let b = is_refused t.what number t.is in
            let world = worlds_there said s t in
            let now = now_there one front said s in
            let later = now_there other front said t in
            let alike : NoTransaction (L.kind item) → (is_looking who s.before ≡ is_looking who t.before)
            × (began_of (fate L items who o.tables s.before) ≡ began_of (fate L items who o.tables t.before)) =
            λ reads. (
              looking_alike who o.tables s.before t.before (seen_there said s t reads),
              began_seen (fate L items who o.tables s.before) (fate L items who o.tables t.before)
                  (seen_there said s t reads),
            ) in
            reply_there one front said s
            ∙ ap (reply_at L item (fate_there one front said s)) a.1
            ∙ refused_same L item o.opened who full s.before t.before now later
            (at_drop o.opened.pages now s.before) (at_drop o.opened.pages later t.before)
            (is_looking who s.before) (is_looking who t.before)
            (began_of (fate L items who o.tables s.before)) (began_of (fate L items who o.tables t.before)) a.0 b.0
            world (ap (λ (w : World L.Tables). newest w) world)
            (pinned_alike L items o.opened.pages s.before t.before (s.in_front ∙ sym t.in_front)) (a.2 ∙ sym b.2)
            (ap hides_values a.2 ∙ tells)
            (L.kind item) (has_lines (L.kind item) (own who s.before) s.what (own who s.after) s.run) alike
            (refused_there one said s a.0 a.1) (refused_there other said t b.0 b.1)
            ∙ sym (ap (reply_at L item (fate_there other front said t)) b.1)
            ∙ sym (reply_there other front said t)

        -- what the line tells
        told_same : (said : Shown) (s : Stands one who item front said) (t : Stands other who item front said)
            → tells_reply said ≡ true
            → ((a b c d : ℕ) → (L.words item).refused (JournalFull a b) ≡ (L.words item).refused (JournalFull c d))
            → reply L item (fate L items who o.tables one) ≡ reply L item (fate L items who o.tables other)
        told_same (seen.Done declares) s t tells full = plain_same (seen.Done declares) s t tt
        told_same seen.Unlooked s t tells full = plain_same seen.Unlooked s t tt
        told_same (seen.DroppedBelow below) s t tells full = plain_same (seen.DroppedBelow below) s t tt
        told_same (seen.Faulted device count) s t tells full = plain_same (seen.Faulted device count) s t tt
        told_same (seen.RefusedBy number) s t tells full = refused_alike number s t
            (not_true (hides_values number) tells) full
        told_same seen.RolledBack s t tells full = cc
        told_same (seen.Looked snapshot) s t tells full = cc
        told_same seen.LookedAll s t tells full = cc

      pub replies : (ending later : Device → ℕ) (one other : List Line) (front rest : List (Who × Shown)) (said : Shown)
          → Lawful L items o ending one → Lawful L items o later other → items who ≡ Some item
          → shown_lines one ≡ shown_lines other
          → shown_lines one ≡ front ++ (who, said) ∷ rest → tells_reply said ≡ true
          → ((a b c d : ℕ) → (L.words item).refused (JournalFull a b) ≡ (L.words item).refused (JournalFull c d))
          → reply L item (fate L items who o.tables one) ≡ reply L item (fate L items who o.tables other)
      replies ending later one other front rest said lawful_one lawful_other is same e tells full =
          told_same one other front said
          (standing ending one who item front rest said lawful_one is e (tells_ends said tells))
          (standing later other who item front rest said lawful_other is (sym same ∙ e) (tells_ends said tells))
          tells full

      -- the replies of a rollback over these tables
      rolled : (journal : List Line) (front : List (Who × Shown)) (f : Fate L.Tables)
          → Stands journal who item front seen.RolledBack → fate L items who o.tables journal ≡ Some f
          → reply L item (fate L items who o.tables journal)
          ≡ L.replies item (began_at f).current ++ (L.words item).rolled_back
      rolled journal front f s e =
          let both : Some f ≡ Some (fate_there journal front seen.RolledBack s) =
          sym e ∙ fate_is journal front seen.RolledBack s in
          let is : f ≡ fate_there journal front seen.RolledBack s = cc in
          ap (reply L item) e
          ∙ ap (reply_at L item f) (ap (λ (x : Fate L.Tables). x.last) is ∙ is_rolled s.what s.is)

      pub rollbacks : (ending later : Device → ℕ) (one other : List Line) (front rest : List (Who × Shown))
          (f g : Fate L.Tables) → Lawful L items o ending one → Lawful L items o later other → items who ≡ Some item
          → shown_lines one ≡ shown_lines other → shown_lines one ≡ front ++ (who, seen.RolledBack) ∷ rest
          → fate L items who o.tables one ≡ Some f → fate L items who o.tables other ≡ Some g
          → (began_at f).current ≡ (began_at g).current
          → reply L item (fate L items who o.tables one) ≡ reply L item (fate L items who o.tables other)
      rollbacks ending later one other front rest f g lawful_one lawful_other is same e a b began =
          rolled one front f (standing ending one who item front rest seen.RolledBack lawful_one is e refl) a
          ∙ ap (λ (tables : L.Tables). L.replies item tables ++ (L.words item).rolled_back) began
          ∙ sym
          (rolled other front g
          (standing later other who item front rest seen.RolledBack lawful_other is (sym same ∙ e) refl) b)

      -- what became of an item that is no transaction
      pub fates : (ending later : Device → ℕ) (one other : List Line) → Lawful L items o ending one
          → Lawful L items o later other
          → items who ≡ Some item → NoTransaction (L.kind item) → shown_lines one ≡ shown_lines other
          → option_map seen_by (fate L items who o.tables one) ≡ option_map seen_by (fate L items who o.tables other)
      fates ending later one other lawful_one lawful_other is reads same =
          fate_alike L items who o.tables one other (all_end ending one lawful_one) (all_end later other lawful_other)
          (all_shown ending one lawful_one) (all_shown later other lawful_other) same
        where
          all_end : (ending : Device → ℕ) (journal : List Line) → Lawful L items o ending journal
              → AllByRecursion (Ends L items) journal
          all_end ending journal lawful = ends_in L items o journal lawful.at_each [] journal []
              (sym (append-nil journal))

          all_shown : (ending : Device → ℕ) (journal : List Line) → Lawful L items o ending journal
              → AllByRecursion IsShown (own who journal)
          all_shown ending journal lawful = run_shown (L.kind item) (own who journal) reads
              ((lawful.shape.sessions who.session).runs who item refl is)

    -- behind fronts that are shown alike there is one world
    pub worlds : (ending later : Device → ℕ) (one other front rest fore more : List Line)
        → Lawful L items o ending one
        → Lawful L items o later other
        → one ≡ front ++ rest → other ≡ fore ++ more → shown_lines front ≡ shown_lines fore
        → world L items o.tables front ≡ world L items o.tables fore
    worlds ending later one other front rest fore more lawful_one lawful_other e f same =
        world_alike L items o.tables front fore (ends_in L items o one lawful_one.at_each [] front rest e)
        (ends_in L items o other lawful_other.at_each [] fore more f) same
