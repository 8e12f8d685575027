-- A load, and what is written of it.
use Rattle.std.specs.Prelude.{◌≡◌, ◌≢◌, ◌==◌, ◌++◌, ◌||◌, ◌∷◌, ℕ, Bool, true, false, not, List, []}
use Rattle.std.specs.Prelude.{length, filter, get_or, codes, Some, Result, Ok, Err}
use Rattle.std.specs.Fmt.{decimal}
use Rattle.std.specs.List.{flat_map, slice_split}
use Rattle.std.specs.Option.{option_map_or}
use Rattle.std.specs.Str.{bytes_eq}
use Rattle.retro_base.specs.declared.limits.TheConstants.{MEMORY_PAGES}
use Rattle.retro_base.specs.declared.refusal.Refusal.{Refusal}
use Rattle.history.specs.declared.journal.Line.{Line}
use Rattle.history.specs.declared.journal.What.{What}
use Rattle.history.specs.declared.journal.What.TheVariants.{Done}
use Rattle.session.specs.Line.{line}
use Rattle.session.specs.Plan.{Plan, numbered}
use Rattle.session.specs.Replies.{kept_by_place, text_of}
use Rattle.session.specs.Wording.{word}
use Rattle.session.specs.declared.kept.Kept.{Kept}
use Rattle.workload.specs.Load.{load_lines, script_text, table_numbers}
use Rattle.retro.specs.Asked.{BytesAsk, RefusesScript, RunsAsAsked}
use Rattle.retro.specs.Memory.{RunsFrom, memory_opening}
use Rattle.retro.specs.Program.{HasCauses}
use Rattle.retro.specs.Says.{Refuses, WritesOne}
use Rattle.retro.specs.Seen.{Seen}
use Rattle.retro.specs.Shows.{number_line}
use Rattle.retro.specs.declared.storing.Ended.{Ended}

-- ---- what the journal tells

-- the line is that of a commit; of one that declares a snapshot
abbrev pub is_commit : What → Bool
is_commit (Done label writes) = true
is_commit what = false

abbrev pub declares : What → Bool
declares (Done (Some label) writes) = true
declares what = false

-- how many lines are of a kind
abbrev pub count_of : (What → Bool) → List Line → ℕ
count_of is journal = length (filter (λ (line : Line). is line.what) journal)

-- ---- what the last phase replies

-- A line of a reply stands for a number unless it counts the one row that follows, or tells the commit: it is that row,
-- or says why there is none.
abbrev pub is_number : List ℕ → Bool
is_number line = not (bytes_eq line [] || (bytes_eq line (codes "rows 1") || bytes_eq line (codes "committed")))

abbrev pub numbers_in : List ℕ → List (List ℕ)
numbers_in reply = filter is_number (slice_split (λ byte. byte == 10) reply)

-- the one at a place; a reply that is one line stands for each
abbrev pub number_at : List (List ℕ) → ℕ → List ℕ
number_at [] place = []
number_at (first ∷ numbers) place = get_or (first ∷ numbers) place first

-- the numbers of the item of a number among these, where the journal has so many lines
abbrev pub numbers_of : ℕ → List Kept → ℕ → List (List ℕ)
numbers_of lines kept item = numbers_in (option_map_or (text_of lines) (numbered kept item) [])

-- ---- the summary

abbrev pub load_line : ℕ → ℕ → List ℕ
load_line seed rounds = line (codes "load" ++ 32 ∷ (decimal seed ++ 32 ∷ decimal rounds))

-- the sums of the tables
abbrev pub sums_line : ℕ → List Kept → List ℕ
sums_line lines kept =
    line (codes "sums" ++ flat_map (λ table. word (number_at (numbers_of lines kept 3) table)) table_numbers)

-- the sum of what the snapshots hold of the first
abbrev pub past_line : ℕ → List Kept → List ℕ
past_line lines kept = line (codes "past" ++ word (number_at (numbers_of lines kept 2) 0))

-- What is written of a load, of whose last phase this is kept. The newest snapshot is how many were declared.
abbrev pub summary : ℕ → ℕ → List Kept → ℕ → List Line → List ℕ
summary seed rounds kept captures journal =
    load_line seed rounds
    ++ (number_line (codes "committed") (count_of is_commit journal)
    ++ (number_line (codes "snapshots") (count_of declares journal)
    ++ (number_line (codes "captures") captures
    ++ (sums_line (length journal) kept ++ past_line (length journal) kept))))

-- the script of a load
abbrev pub load_text : ℕ → ℕ → List ℕ
load_text seed rounds = script_text (load_lines seed rounds)

-- the summary of a run of a load's plan, by what it replied
pub record IsSummary (seed rounds : ℕ) (plan : Plan) (ended : Ended) (text : List ℕ) : Type 0 where
  pub kept : List (List (List Kept))
  pub kept_is : ended.kept ≡ Ok kept
  pub text_is : text ≡ summary seed rounds (kept_by_place kept (length plan) 0) ended.captures ended.journal

-- how a run of a load's plan ends: its summary is written
abbrev pub EndsLoad : ℕ → ℕ → Seen → Plan → Result Ended Refusal → ℕ → Type 0
EndsLoad seed rounds sink plan (Ok ended) status = WritesOne sink (IsSummary seed rounds plan ended) status
EndsLoad seed rounds sink plan (Err why) status = Refuses sink why status

-- `load`: so its script asks; so the plan was run over an empty store in memory, and so it ends
abbrev pub Loads : ℕ → ℕ → Seen → ℕ → Type 0
Loads seed rounds sink status =
    RunsAsAsked (BytesAsk (load_text seed rounds))
    (λ plan. (ended : Result Ended Refusal) × RunsFrom MEMORY_PAGES memory_opening plan ended
    × EndsLoad seed rounds sink plan ended status)
    (λ why. RefusesScript sink why status)

-- a source that gives the script of a load, and never fails
abbrev pub load_source : ℕ → ℕ → Seen
load_source seed rounds = record {
  bytes_old = Some (load_text seed rounds);
  bytes_new = Some [];
  faults_old = 0;
  faults_new = 0;
}

-- the law of the status of `load`: it tells what that of `run` does with its script in the source, and is never 4
abbrev pub StatusesOfLoadTellCauses : Type 0
StatusesOfLoadTellCauses =
    (seed rounds : ℕ) (sink : Seen) (status : ℕ) → Loads seed rounds sink status
    → HasCauses (load_source seed rounds) sink status × (status ≢ 4)
