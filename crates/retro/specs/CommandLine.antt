-- The table of good words as `clap` takes it: what the command of the program is, and what is read of its matches.
use Rattle.std.specs.Prelude.{ℕ, true, List, [], ◌∷◌, codes, if◌then◌else◌}
use Rattle.std.specs.Prelude.{Option, Some, None, Result, Ok, Err, option_and_then}
use Rattle.std.specs.Str.{bytes_eq}
use Rattle.clap.specs.Words.{App, Row, Rule, Shape, Text, first_of, new_rule, with_subcommand}
use Rattle.clap.specs.Simple.{new_shape}
use Rattle.clap.specs.declared.builder.value_parser.ValueParser.TheVariants.{NonEmptyString}
use Rattle.retro.specs.Words.{number_of}
use Rattle.retro.specs.Words as words
use Rattle.retro.specs.declared.words.Command.{Command}
use Rattle.retro.specs.declared.words.Command.TheVariants.{Run, Show}
use Rattle.retro.specs.declared.words.Mistake.{Mistake}
use Rattle.retro.specs.declared.words.Mistake.TheVariants.{BadWords}

-- a folder, which may be left out, or may not
abbrev pub optional_folder : Rule
optional_folder = record (new_rule (codes "DIR")) { parser = Some NonEmptyString }

abbrev pub folder : Rule
folder = record optional_folder { required = true }

-- a word that has to be there
abbrev pub wanted : Text → Rule
wanted name = record (new_rule name) { required = true }

-- a verb with the words behind it
abbrev pub verb_of : Text → List Rule → Shape
verb_of name rules = record (new_shape name) { rules = rules }

-- the command of the program, before it has verbs
abbrev pub program : App
program = record {
  top = record (new_shape (codes "retro")) {
    no_binary_name = true;
    disable_help_flag = true;
    disable_help_subcommand = true;
    subcommand_required = true;
  };
  subs = [];
}

abbrev pub run : Shape
run = verb_of (codes "run") (optional_folder ∷ [])

abbrev pub show : Shape
show = verb_of (codes "show") (folder ∷ [])

abbrev pub load : Shape
load = verb_of (codes "load") (wanted (codes "SEED") ∷ wanted (codes "N") ∷ [])

abbrev pub format : Shape
format = verb_of (codes "format") (folder ∷ wanted (codes "PAGES") ∷ wanted (codes "CAPACITY") ∷ [])

-- the command of the program
abbrev pub command_line : App
command_line = with_subcommand (with_subcommand (with_subcommand (with_subcommand program run) show) load) format

-- the number that was given for a word
abbrev pub number_at : Text → List Row → Option ℕ
number_at name rows = option_and_then number_of (first_of name rows)

abbrev pub shown : Option Text → Result (Command (List ℕ)) Mistake
shown (Some dir) = Ok (Show dir)
shown None = Err BadWords

abbrev pub making : Option Text → Option ℕ → Option ℕ → Result (Command (List ℕ)) Mistake
making (Some dir) pages capacity = words.format dir pages capacity
making None pages capacity = Err BadWords

abbrev pub formatted : List Row → Result (Command (List ℕ)) Mistake
formatted rows =
    making (first_of (codes "DIR") rows) (number_at (codes "PAGES") rows) (number_at (codes "CAPACITY") rows)

abbrev pub loaded : List Row → Result (Command (List ℕ)) Mistake
loaded rows = words.load (number_at (codes "SEED") rows) (number_at (codes "N") rows)

-- what a verb asks for, with the words that were given behind it
abbrev pub chosen : Text → List Row → Result (Command (List ℕ)) Mistake
chosen verb rows =
    if bytes_eq verb (codes "run") then Ok (Run (first_of (codes "DIR") rows))
    else if bytes_eq verb (codes "show") then shown (first_of (codes "DIR") rows)
    else if bytes_eq verb (codes "load") then loaded rows
    else if bytes_eq verb (codes "format") then formatted rows
    else Err BadWords

-- what the matches ask for
abbrev pub matched : Option (Text × List Row) → Result (Command (List ℕ)) Mistake
matched (Some entered) = chosen entered.0 entered.1
matched None = Err BadWords
