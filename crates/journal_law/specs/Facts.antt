-- What a seat knows of a line of its own, when it records it, and of its lines in the end.
use Rattle.std.specs.Prelude.{◌≡◌, ◌≢◌, ◌++◌, ℕ, List, [], ◌∷◌, Option}
use Rattle.std.specs.List.{AllByRecursion}
use Rattle.retro_base.specs.declared.who.Who.{Who}
use Rattle.history.specs.declared.journal.Line.{Line}
use Rattle.journal_law.specs.Language.{Language}
use Rattle.journal_law.specs.Lawful.{HasRuns, Ground, KeepsRules, Opening}
use Rattle.journal_law.specs.Pages.{page_world}
use Rattle.journal_law.specs.Shows.{Shows, ShowsAlong, world}
use Rattle.journal_law.specs.World.{World}

-- no line of this session
abbrev pub AreOthers : ℕ → List Line → Type 0
AreOthers session lines = AllByRecursion (λ (line : Line). line.who.session ≢ session) lines

-- what has been seen of a journal begins it, and the rest has no line of this session
pub record HasSeen (session : ℕ) (front journal : List Line) : Type 0 where
  pub rest : List Line
  pub whole : journal ≡ front ++ rest
  pub others : AreOthers session rest

module _ (L : Language) (items : Who → Option L.Item) (ground : Ground) where
  -- the opening with these tables
  abbrev pub with_tables : World L.Tables → Opening L
  with_tables tables = record { opened = ground; tables = tables }

  -- Whatever tables the pages held up to there, the line keeps the rules over them, and the pages hold the tables
  -- behind it too.
  abbrev pub Fits : List Line → Line → Type 0
  Fits before line = (tables : World L.Tables) → ShowsAlong L items ground.pages tables before →
      Shows L (page_world ground.pages (before ++ line ∷ [])) (world L items tables (before ++ line ∷ []))
      × KeepsRules L items (with_tables tables) before line

  -- each line of this session among these fits what stands before it
  abbrev pub OwnFit : ℕ → List Line → List Line → Type 0
  OwnFit session before [] = Unit {0}
  OwnFit session before (line ∷ lines) =
      (line.who.session ≡ session → Fits before line) × OwnFit session (before ++ line ∷ []) lines

  -- each session has seen a front with all its lines; these fit, and they are those of a run
  pub record SessionFits (session : ℕ) (journal : List Line) : Type 0 where
    pub front : List Line
    pub seen : HasSeen session front journal
    pub fits : OwnFit session [] front
    pub runs : HasRuns L items session front

  abbrev pub AllFit : List Line → Type 0
  AllFit journal = (session : ℕ) → SessionFits session journal
