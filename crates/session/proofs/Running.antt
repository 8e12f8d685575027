-- What statement lines leave, line by line.
use Rattle.std.proofs.Common.{◌≡◌, ◌⊎◌, ◌∙◌, ◌++◌, ◌||◌, ◌+◌, ◌<◌, ◌≤◌, ℕ, zero, suc, arith, add-one, drop, drop-cons, get_or, length, Bool, true, false, List, [], ◌∷◌, flat_map, Option, Some, None, Result, Ok, Err, refl, ap, sym, subst, inl, inr, append_assoc}
use Rattle.std.specs.Prelude.{is_ok}
use Rattle.retro_base.specs.declared.refusal.Refusal.{Refusal}
use Rattle.retro_base.specs.declared.refusal.Refusal.TheVariants as refusal
use Rattle.sql_tree.specs.declared.statement.Statement.{Statement}
use Rattle.sql_tree.specs.declared.statement.Statement.TheVariants.{CreateTable, CreateIndex, Insert, Update, Delete, Select}
use Rattle.tables.specs.Meaning.{does}
use Rattle.tables.specs.Tables.{Tables}
use Rattle.tables.specs.declared.reply.Reply.{Reply}
use Rattle.pager.specs.Pages.{Leads, Pages}
use Rattle.pager.specs.Stop.{IsCutShort}
use Rattle.pager.specs.declared.stop.Stop.{Stop}
use Rattle.pager.specs.declared.stop.Stop.TheVariants as stop
use Rattle.script.specs.declared.structure.Reading.{Reading}
use Rattle.script.specs.declared.structure.Reading.TheVariants.{Read, Syntax}
use Rattle.relation_laws.specs.Work.{IsInReach, Work}
use Rattle.sql_exec.specs.Planning.{work_of}
use Rattle.sql_exec.specs.Promises.{IsDoneOver, EditsFor, IsRefusedOver, IsRunOver, Runs}
use Rattle.sql_exec.specs.Running.{ran}
use Rattle.sql_exec.specs.Stored.{IsStored}
use Rattle.session.specs.Reach.{AtOne, LineReaches, StepsTo}
use Rattle.session.specs.Statements.{Lines, changes, changes_line, does_line, outcome, replies}
use Rattle.session.specs.Wording.{outcome_text}
use Rattle.session.specs.LinesRun.{Cut, EndsLine, LineAdds, LineGives, LineGivesOver, LineMarks, LineRan, Midway, reply_or_end, reply_or_stop}
use Rattle.session.proofs.Meant.{refused_by_meaning}
use Rattle.session.proofs.Named.{IsOfMeaning}

-- ---- one statement

-- a page that counts as edited behind a statement did so before it, or the statement reaches it
edits_mark : (size : ℕ) (was now : Pages) (work : Option Work) → EditsFor size was now work → (page : ℕ) → now.edited page ≡ true → (was.edited page ≡ true) ⊎ ((one : Work) × (work ≡ Some one) × IsInReach size was one page)
edits_mark size was now None edits page is = inl (ap (λ (p : Pages). p.edited page) (sym edits) ∙ is)
edits_mark size was now (Some work) edits page is = elim (edits.3 page) [
  | inl untouched ↦ inl (sym untouched.1 ∙ is)
  | inr reached ↦ inr (work, refl, reached)
]

done_marks : (size : ℕ) (statement : Statement) (was : Pages) (tables : Tables) (reply : Reply) (now : Pages) → IsDoneOver size statement None was tables reply now → LineMarks size (Read statement) was tables now
done_marks size statement was tables reply now done page is = elim (edits_mark size was now done.work done.edits page is) [
  | inl before ↦ inl before
  | inr reached ↦ inr (ap is_ok done.means, reached.0, (done.is_work ∙ ap (λ (w : Option Work). Ok w) reached.1), reached.2)
]

select_leaves : (size : ℕ) (statement : Statement) (was : Pages) (tables : Tables) (now : Pages) (work : Option Work) → changes_line (Read statement) ≡ false → work_of statement None tables ≡ Ok work → EditsFor size was now work → now ≡ was
select_leaves size (Select query) was tables now None is work edits = edits
select_leaves size (Select query) was tables now (Some one) is work edits = cc
select_leaves size (CreateTable create) was tables now work is of edits = cc
select_leaves size (CreateIndex create) was tables now work is of edits = cc
select_leaves size (Insert insert) was tables now work is of edits = cc
select_leaves size (Update update) was tables now work is of edits = cc
select_leaves size (Delete delete) was tables now work is of edits = cc

-- pages that are as they were
marks_stay : (size : ℕ) (line : Reading Statement) (was : Pages) (tables : Tables) (now : Pages) → now ≡ was → LineMarks size line was tables now
marks_stay size line was tables now same page is = inl (ap (λ (p : Pages). p.edited page) (sym same) ∙ is)

replied_line : (size : ℕ) (statement : Statement) (was : Pages) (tables : Tables) (now : Pages) (reply : Reply) → IsDoneOver size statement None was tables reply now → ran size statement None was (Ok (reply, now))
    → LineRan size (Read statement) was tables now (Ok reply)
replied_line size statement was tables now reply done has_run =
    let is : (does_line (Read statement) tables).1 ≡ Ok reply = ap (λ (r : Result (Tables × Reply) Refusal). (outcome tables r).1) done.means in
    record {
      outcome_is = is;
      stored = subst (IsStored size now) (sym (ap (λ (r : Result (Tables × Reply) Refusal). (outcome tables r).0) done.means)) done.stored;
      steps = subst (λ (o : Result Reply Refusal). StepsTo size (Read statement) was o now) (sym is) has_run;
      marks = done_marks size statement was tables reply now done;
      selects = λ select. select_leaves size statement was tables now done.work select done.is_work done.edits;
    }

-- a refusal that is a statement's reply
refused_line : (size : ℕ) (statement : Statement) (was : Pages) (tables : Tables) (now : Pages) (why : Refusal) → IsStored size was tables → does statement None tables ≡ Err why → now ≡ was
    → LineRan size (Read statement) was tables now (Err why)
refused_line size statement was tables now why stored means same =
    let is : (does_line (Read statement) tables).1 ≡ Err why = ap (λ (r : Result (Tables × Reply) Refusal). (outcome tables r).1) means in
    record {
      outcome_is = is;
      stored = subst (IsStored size now) (sym (ap (λ (r : Result (Tables × Reply) Refusal). (outcome tables r).0) means)) (subst (λ (p : Pages). IsStored size p tables) (sym same) stored);
      steps = subst (λ (o : Result Reply Refusal). StepsTo size (Read statement) was o now) (sym is) same;
      marks = marks_stay size (Read statement) was tables now same;
      selects = λ select. same;
    }

-- what a refusal gives: a reply, or the end of the attempt
abbrev pub as_outcome : Result Refusal Refusal → Result (Result Reply Refusal) Refusal
as_outcome (Ok why) = Ok (Err why)
as_outcome (Err why) = Err why

module _ (size : ℕ) (statement : Statement) (was : Pages) (tables : Tables) (now : Pages) (stored : IsStored size was tables) (same : now ≡ was) where
  not_meant : (why : Refusal) → does statement None tables ≡ Err why → IsOfMeaning why
  not_meant why means = refused_by_meaning statement None tables why means

  -- a refusal that may be a reply is one by meaning
  replies_so : (why : Refusal) → reply_or_end why ≡ Ok why → (why ≡ refusal.OutOfMemory) ⊎ IsRefusedOver size statement None was tables why → LineRan size (Read statement) was tables now (Err why)
  replies_so why may (inl memory) = absurd (not_so (sym may ∙ ap reply_or_end memory))
    where
      not_so : Ok why ≡ Err refusal.OutOfMemory → ⊥
      not_so e = cc
  replies_so why may (inr (inl means)) = refused_line size statement was tables now why stored means same
  replies_so why may (inr (inr full)) = absurd (not_so (sym may ∙ ap reply_or_end full.0))
    where
      not_so : Ok why ≡ Err (refusal.PagesFull size) → ⊥
      not_so e = cc

  refusal_gives : (why : Refusal) → (why ≡ refusal.OutOfMemory) ⊎ IsRefusedOver size statement None was tables why → LineGivesOver size (Read statement) was tables now (as_outcome (reply_or_end why))
  refusal_gives refusal.OutOfMemory is = (tt, marks_stay size (Read statement) was tables now same)
  refusal_gives (refusal.NotAStore device place) (inl memory) = cc
  refusal_gives (refusal.NotAStore device place) (inr (inl means)) = absurd (not_meant (refusal.NotAStore device place) means)
  refusal_gives (refusal.NotAStore device place) (inr (inr full)) = absurd (other full.0)
    where
      other : refusal.NotAStore device place ≡ refusal.PagesFull size → ⊥
      other e = cc
  refusal_gives (refusal.PagesFull pages) (inl memory) = cc
  refusal_gives (refusal.PagesFull pages) (inr (inl means)) = absurd (not_meant (refusal.PagesFull pages) means)
  refusal_gives (refusal.PagesFull pages) (inr (inr full)) = ((same_pages full.0, (full.1, full.2, full.3, full.4)), marks_stay size (Read statement) was tables now same)
    where
      same_pages : refusal.PagesFull pages ≡ refusal.PagesFull size → pages ≡ size
      same_pages e = cc
  refusal_gives why is = replies_so why refl is

-- where the pager failed, part of the edits are made
fault_marks : (size : ℕ) (statement : Statement) (was : Pages) (tables : Tables) (now : Pages) → IsCutShort (IsRunOver size statement None was tables) was now → LineMarks size (Read statement) was tables now
fault_marks size statement was tables now (inl same) = marks_stay size (Read statement) was tables now same
fault_marks size statement was tables now (inr (reply, whole, done, part)) = λ page is. done_marks size statement was tables reply whole done page (part.marks page is)

-- what running a statement gives, as its line's
abbrev pub of_run : {F : Type 0} → Result Reply (Stop F) → Result (Result Reply Refusal) Refusal
of_run (Ok reply) = Ok (Ok reply)
of_run (Err why) = as_outcome (reply_or_stop why)

pub run_gives : {F : Type 0} (size : ℕ) (statement : Statement) (before after : Pages → Pages → Type 0) (result : Result Reply (Stop F)) → ((base one other : Pages) → before base one → before base other → one ≡ other)
    → Runs size statement None before after result → Leads before after (λ was now. LineGives size (Read statement) was now (of_run result))
run_gives size statement before after (Ok reply) shows_one runs base shown tells =
    let over = runs.over_tables base shown tells in
    let pages = runs.over_pages base shown tells in
    let has_run : ran size statement None over.0 (Ok (reply, shown)) = subst (λ (was : Pages). ran size statement None was (Ok (reply, shown))) (shows_one base pages.0 over.0 pages.1 over.1) pages.2 in
    (over.0, over.1, λ tables stored. replied_line size statement over.0 tables shown reply (over.2 tables stored) has_run)
run_gives size statement before after (Err (stop.Refused why)) shows_one runs base shown tells =
    let over = runs.over_tables base shown tells in
    (over.0, over.1, λ tables stored. refusal_gives size statement over.0 tables shown stored (over.2 tables stored).0 why (over.2 tables stored).1)
run_gives size statement before after (Err (stop.Pager fault)) shows_one runs base shown tells =
    let over = runs.over_tables base shown tells in
    (over.0, over.1, λ tables stored. (tt, fault_marks size statement over.0 tables shown (over.2 tables stored)))

-- a line that the grammar refused
pub syntax_gives : (size place : ℕ) (tells : Pages → Pages → Type 0) → Leads tells tells (λ was now. LineGives size (Syntax place) was now (Ok (Err (refusal.Syntax place))))
syntax_gives size place tells base shown told = (
  shown,
  told,
  λ tables stored. record {
    outcome_is = refl;
    stored = stored;
    steps = refl;
    marks = λ page is. inl is;
    selects = λ is. refl;
  },
)

-- ---- lines, one after the other

pub starts : (size : ℕ) (lines : Lines) (was : Pages) (tables : Tables) → IsStored size was tables → Midway size lines was tables lines was []
starts size lines was tables stored = record {
  behind = tables;
  stored = stored;
  leaves = refl;
  replied = refl;
  shorts = λ is. is;
  reaches = λ page is. is;
  marks = λ page is. inl is;
  selects = λ is. (is, refl);
}

none_of : (a b : Bool) → (a || b) ≡ false → (a ≡ false) × (b ≡ false)
none_of true b is = cc
none_of false b is = (refl, is)

module _ (size : ℕ) (lines : Lines) (was : Pages) (tables : Tables) (line : Reading Statement) (rest : Lines) (mid : Pages) (text : List ℕ) (m : Midway size lines was tables (line ∷ rest) mid text) where
  line_marks : (now : Pages) → LineMarks size line mid m.behind now → (page : ℕ) → now.edited page ≡ true → (was.edited page ≡ true) ⊎ AtOne size (LineReaches size page) lines was tables
  line_marks now marks page is = elim (marks page is) [
    | inl before ↦ m.marks page before
    | inr reached ↦ inr (m.reaches page (inl reached))
  ]

  -- one line more has run
  pub more_ran : (now : Pages) (one : Result Reply Refusal) → LineRan size line mid m.behind now one → Midway size lines was tables rest now (text ++ outcome_text one)
  more_ran now one line_ran = record {
    behind = (does_line line m.behind).0;
    stored = line_ran.stored;
    leaves = m.leaves;
    replied =
        append_assoc text (outcome_text one) (flat_map outcome_text (replies rest (does_line line m.behind).0))
        ∙ ap (λ (o : Result Reply Refusal). text ++ (outcome_text o ++ flat_map outcome_text (replies rest (does_line line m.behind).0))) (sym line_ran.outcome_is)
        ∙ m.replied;
    shorts = λ is. m.shorts (inr (now, line_ran.steps, is));
    reaches = λ page is. m.reaches page (inr (now, line_ran.steps, is));
    marks = line_marks now line_ran.marks;
    selects = λ is.
        let before = m.selects is in
        let here = none_of (changes_line line) (changes rest) before.0 in
        (here.1, line_ran.selects here.0 ∙ before.1);
  }

  -- the line ended the attempt
  pub line_cuts : (now : Pages) (why : Refusal) → EndsLine size line mid m.behind why → LineMarks size line mid m.behind now → Cut size lines was tables now why
  line_cuts now refusal.OutOfMemory ends marks = record { is_why = tt; marks = line_marks now marks }
  line_cuts now (refusal.PagesFull pages) ends marks = record { is_why = (ends.0, m.shorts (inl ends.1)); marks = line_marks now marks }
  line_cuts now why ends marks = absurd ends

-- ---- what a line's call gives

-- its outcome was added to the text
pub adds_outcome : (size : ℕ) (line : Reading Statement) (old new : List ℕ) (was now : Pages) (one : Result Reply Refusal) → LineGives size line was now (Ok one) → new ≡ old ++ outcome_text one → (u : Unit {0}) → LineAdds size line old new was now (Ok u)
adds_outcome size line old new was now one gives is u tables stored =
    let line_ran = gives tables stored in (
      subst (λ (o : Result Reply Refusal). LineRan size line was tables now o) (sym line_ran.outcome_is) line_ran,
      is ∙ ap (λ (o : Result Reply Refusal). old ++ outcome_text o) (sym line_ran.outcome_is),
    )

-- there was no memory for it
pub lacks_memory : (size : ℕ) (line : Reading Statement) (old new : List ℕ) (was now : Pages) (one : Result Reply Refusal) → LineGives size line was now (Ok one) → LineAdds size line old new was now (Err refusal.OutOfMemory)
lacks_memory size line old new was now one gives tables stored = (tt, (gives tables stored).marks)

-- the line ended the attempt
pub adds_nothing : (size : ℕ) (line : Reading Statement) (old new : List ℕ) (was now : Pages) (why : Refusal) → LineGives size line was now (Err why) → LineAdds size line old new was now (Err why)
adds_nothing size line old new was now why gives tables stored = gives tables stored

-- ---- the lines of a loop

pub one_more : (size width : ℕ) → width ≡ size → (lines rest more : Lines) (line : Reading Statement) → rest ≡ line ∷ more → (was mid now : Pages) (old new : List ℕ) (u : Unit {0}) → LineAdds width line old new mid now (Ok u)
    → (tables : Tables) → Midway size lines was tables rest mid old → Midway size lines was tables more now new
one_more size width same lines rest more line is was mid now old new u adds tables m =
    let here : Midway size lines was tables (line ∷ more) mid old = subst (λ (ls : Lines). Midway size lines was tables ls mid old) is m in
    let added : LineAdds size line old new mid now (Ok u) = subst (λ (n : ℕ). LineAdds n line old new mid now (Ok u)) same adds in
    let this = added here.behind here.stored in
    subst (Midway size lines was tables more now) (sym this.1) (more_ran size lines was tables line more mid old here now (does_line line here.behind).1 this.0)

pub cut_here : (size width : ℕ) → width ≡ size → (lines rest more : Lines) (line : Reading Statement) → rest ≡ line ∷ more → (was mid now : Pages) (old new : List ℕ) (why : Refusal) → LineAdds width line old new mid now (Err why)
    → (tables : Tables) → Midway size lines was tables rest mid old → Cut size lines was tables now why
cut_here size width same lines rest more line is was mid now old new why adds tables m =
    let here : Midway size lines was tables (line ∷ more) mid old = subst (λ (ls : Lines). Midway size lines was tables ls mid old) is m in
    let added : LineAdds size line old new mid now (Err why) = subst (λ (n : ℕ). LineAdds n line old new mid now (Err why)) same adds in
    let this = added here.behind here.stored in
    line_cuts size lines was tables line more mid old here now why this.0 this.1

pub next_line : (lines : Lines) (i : ℕ) (line : Reading Statement) → i < length lines → line ≡ get_or lines i line → drop i lines ≡ line ∷ drop (i + 1) lines
next_line lines i line lt is =
    let cut : drop i lines ≡ get_or lines i line ∷ drop (i + 1) lines = rw add-one (drop-cons lines i line lt) in
    cut ∙ ap (λ (l : Reading Statement). l ∷ drop (i + 1) lines) (sym is)

pub none_left : (lines : Lines) (i : ℕ) → length lines ≤ i → drop i lines ≡ []
none_left [] zero le = refl
none_left [] (suc i) le = refl
none_left (x ∷ xs) zero le = absurd (omega (arith, le))
none_left (x ∷ xs) (suc i) le = none_left xs i (omega (arith, le))
