-- What `clap` takes of the program's words, and what they ask for.
use Rattle.std.proofs.Common.{◌≡◌, ◌≢◌, ◌⊎◌, ◌∙◌, ◌&&◌, ◌||◌, ◌==◌, ◌++◌, ℕ, Bool, cond, true, false, not, List, [], ◌∷◌, Option, Some, None, Ok, Err, is_some, refl, sym, ap, ap₂, subst, inl, inr, codes, length, nat_lt, rules, arith}
use Rattle.std.specs.List.{list_all, fold}
use Rattle.std.specs.Str.{bytes_eq}
use Rattle.clap.specs.Lexer.{long_of, short_of, strip_byte, long_of_rest, short_of_rest}
use Rattle.clap.specs.Faults.{check_fault, defaults_fault, entered_fault, fault_of, flag_word_fault, is_simple_and_free, level_fault, settle_fault, step_fault, turn_fault, walk_fault, word_fault}
use Rattle.clap.specs.Kinds.{IsAmong, Kinds, or_else}
use Rattle.clap.specs.Simple.{App, Shape, built, built_leaf, entered, inherited, is_simple, marked_built, names_of, subcommand_of, with_leaf_noted}
use Rattle.clap.specs.Walk.{Held, Names, Row, Rule, Step, Text, Walk, after_step, arg_by_index, finished, idle, long_or_other, nothing_held, settled, short_or_plain, subcommand_met, subcommand_or_other, to_positional, trailing, value, walked, word_met}
use Rattle.clap.proofs.OnLiterals.{clap_on_literals}
use Rattle.clap.proofs.WalkLemmas.{walk_stopped}
use Rattle.std.specs.Prelude.{option_and_then, option_map}
use Rattle.retro.specs.CommandLine.{chosen, format, command_line, load, matched, run, show}
use Rattle.retro.specs.Words.{asked, command_of, is_folder, is_plain}
use Rattle.retro.specs.Words as table
use Rattle.retro.specs.declared.words.Command.TheVariants.{Run, Show}
use Rattle.clap.specs.declared.error.kind.ErrorKind.{ErrorKind}
use Rattle.clap.specs.declared.error.kind.ErrorKind.TheVariants as kind
use Rattle.std.proofs.lemmas.Slice.Eq.{bytes_eq-Decides}
use Rattle.std.proofs.lemmas.Bool.{le-leb, lt-ltb}
use Rattle.retro.specs.declared.words.Mistake.TheVariants.{BadWords}

line_is_simple : (is_simple command_line ≡ true) × (is_simple_and_free command_line ≡ true)
unfolding clap_on_literals
line_is_simple = (refl, refl)

-- ---- a word that does not begin with a hyphen is no flag

no_hyphen : (word : Text) → is_plain word ≡ true → strip_byte 45 word ≡ None
no_hyphen [] e = refl
no_hyphen (x ∷ xs) e = go (x == 45) e
  where
    go : (b : Bool) → not b ≡ true → cond b (Some xs) None ≡ None
    go true e = absurd (search rules)
    go false e = refl

no_dashes : (word : Text) → is_plain word ≡ true → bytes_eq word (45 ∷ 45 ∷ []) ≡ false
no_dashes [] e = refl
no_dashes (x ∷ xs) e = go (x == 45) e
  where
    go : (b : Bool) → not b ≡ true → (b && bytes_eq xs (45 ∷ [])) ≡ false
    go true e = absurd (search rules)
    go false e = refl

no_long : (word : Text) → is_plain word ≡ true → long_of word ≡ None
no_long word e = ap (λ o. option_and_then long_of_rest (option_and_then (strip_byte 45) o)) (no_hyphen word e)

no_short : (word : Text) → is_plain word ≡ true → short_of word ≡ None
no_short word e = ap (option_and_then short_of_rest) (no_hyphen word e)

-- where a walk stands that waits for nothing
abbrev at : Held → ℕ → Walk
at h position = record { held = h; waiting = idle; position = position; is_trailing = false; stopped = None }

module _ (names : Names) (word : Text) (plain : is_plain word ≡ true) (other : subcommand_met names idle word ≡ None) where
  -- it is a value
  is_value : (c : List Rule) (position : ℕ) (h : Held) → word_met c names false idle position word h ≡ (h, value)
  is_value c position h =
      ap (λ o. subcommand_or_other c o idle position word h) other
      ∙ ap (λ b. cond b (h, trailing position) (long_or_other c idle word (long_of word) h)) (no_dashes word plain)
      ∙ ap (λ o. long_or_other c idle word o h) (no_long word plain)
      ∙ ap (λ o. short_or_plain c idle word o h) (no_short word plain)

  no_fault : (s : Shape) (h : Held) → word_fault s names false idle word h ≡ []
  no_fault s h =
      ap (λ o. Rattle.clap.specs.Faults.other_fault s o word h) other
      ∙ ap (λ b. cond b [] (flag_word_fault s.rules s.args_override_self (long_of word) word h)) (no_dashes word plain)
      ∙ ap (λ o. flag_word_fault s.rules s.args_override_self o word h) (no_long word plain)
      ∙ ap (λ o. Rattle.std.specs.Option.option_map_or (λ flags. Rattle.clap.specs.Faults.bundle_fault s.rules s.args_override_self flags h) o []) (no_short word plain)

  turns : (s : Shape) (position : ℕ) (h : Held) → turn_fault s names (at h position) word ≡ step_fault s position h value
  turns s position h = ap₂ or_else (no_fault s h) (ap (λ (m : Held × Step). step_fault s position m.0 m.1) (is_value s.rules position h))

  walks : (c : List Rule) (position : ℕ) (h : Held) → walked c names (at h position) word ≡ to_positional c (arg_by_index c position) word (at h position) h
  unfolding walked
  walks c position h = ap (λ (m : Held × Step). after_step c word (at h position) m.0 m.1) (is_value c position h)

or_else_assoc : (a b c : Kinds) → or_else (or_else a b) c ≡ or_else a (or_else b c)
or_else_assoc [] b c = refl
or_else_assoc (k ∷ ks) b c = refl

or_else_nil : (a : Kinds) → or_else a [] ≡ a
or_else_nil [] = refl
or_else_nil (k ∷ ks) = refl

-- ---- a verb, and the words behind it

-- what the end of a verb's walk comes to
abbrev ends : Shape → Held → Kinds
ends s end = or_else (settle_fault s.rules s.args_override_self end)
    (or_else (defaults_fault (settled s.rules end).rows s.rules) (check_fault s (finished s.rules end) false))

abbrev faults : Shape → Walk → List Text → Kinds
faults s w words = or_else (walk_fault s [] w words) (ends s (fold (walked s.rules []) w words).held)

abbrev rows : Shape → Walk → List Text → List Row
rows s w words = finished s.rules (fold (walked s.rules []) w words).held

module _ (s : Shape) (h after : Held) (i j : ℕ) (word : Text) (rest : List Text) (plain : is_plain word ≡ true)
    (moves : to_positional s.rules (arg_by_index s.rules i) word (at h i) h ≡ at after j) where
  next : walked s.rules [] (at h i) word ≡ at after j
  next = walks [] word plain refl s.rules i h ∙ moves

  next_rows : rows s (at h i) (word ∷ rest) ≡ rows s (at after j) rest
  next_rows = ap (λ w. rows s w rest) next

  next_faults : faults s (at h i) (word ∷ rest) ≡ or_else (step_fault s i h value) (faults s (at after j) rest)
  unfolding walk_fault
  next_faults =
      ap₂ (λ k (w : Walk). or_else (or_else k (walk_fault s [] w rest)) (ends s (fold (walked s.rules []) w rest).held)) (turns [] word plain refl s i h) next
      ∙ or_else_assoc (step_fault s i h value) (walk_fault s [] (at after j) rest) (ends s (fold (walked s.rules []) (at after j) rest).held)

-- ---- the program's own level

abbrev top : Shape
top = (built command_line).top

abbrev names : Names
names = names_of (built command_line)

-- a verb as it is built below the program
abbrev leaf : Shape → Shape
leaf s = built_leaf (inherited (with_leaf_noted (marked_built command_line.top)) s)

abbrev start : Walk
start = at nothing_held 1

-- after a verb the words are left to it
left_no_fault : (s : Shape) (ns : Names) (w : Walk) (name : Text) (seen words : List Text) → walk_fault s ns (record w { stopped = Some (name, seen) }) words ≡ []
unfolding walk_fault walked
left_no_fault s ns w name seen [] = refl
left_no_fault s ns w name seen (x ∷ xs) = left_no_fault s ns w name (seen ++ x ∷ []) xs

-- the program has the verb, as this command
record Has (verb : Text) (s : Shape) : Type 0 where
  pub moves : walked top.rules names start verb ≡ record start { stopped = Some (verb, []) }
  pub passes : turn_fault top names start verb ≡ []
  pub found : (rest : List Text) → entered (built command_line) (Some (verb, rest)) ≡ Some (verb, rows s start rest)
  pub below : (rest : List Text) → entered_fault (built command_line) (Some (verb, rest)) ≡ faults s start rest

has_run : Has (codes "run") (leaf run)
unfolding clap_on_literals
has_run = record { moves = refl; passes = refl; found = λ rest. refl; below = λ rest. refl }

has_show : Has (codes "show") (leaf show)
unfolding clap_on_literals
has_show = record { moves = refl; passes = refl; found = λ rest. refl; below = λ rest. refl }

has_load : Has (codes "load") (leaf load)
unfolding clap_on_literals
has_load = record { moves = refl; passes = refl; found = λ rest. refl; below = λ rest. refl }

has_format : Has (codes "format") (leaf format)
unfolding clap_on_literals
has_format = record { moves = refl; passes = refl; found = λ rest. refl; below = λ rest. refl }

-- what the end of the program's walk comes to
abbrev closes : Walk → Kinds → Option (Text × List Row) → Kinds
closes w below sub = or_else below (or_else (settle_fault top.rules top.args_override_self w.held)
    (or_else (defaults_fault (settled top.rules w.held).rows top.rules) (check_fault top (finished top.rules w.held) (is_some sub))))

abbrev closes_at : Walk → Kinds → Kinds
closes_at w walk = or_else walk (closes w (entered_fault (built command_line) w.stopped) (entered (built command_line) w.stopped))

module _ (verb : Text) (s : Shape) (has : Has verb s) (rest : List Text) where
  stops : fold (walked top.rules names) start (verb ∷ rest) ≡ record start { stopped = Some (verb, rest) }
  stops = ap (λ w. fold (walked top.rules names) w rest) has.moves ∙ sym (walk_stopped top.rules names start verb [] rest)

  no_walk_fault : walk_fault top names start (verb ∷ rest) ≡ []
  unfolding walk_fault
  no_walk_fault = ap₂ (λ k (w : Walk). or_else k (walk_fault top names w rest)) has.passes has.moves ∙ left_no_fault top names start verb [] rest

  closing : closes (record start { stopped = Some (verb, rest) }) (entered_fault (built command_line) (Some (verb, rest))) (entered (built command_line) (Some (verb, rest))) ≡ faults s start rest
  unfolding clap_on_literals
  closing = ap₂ (λ k o. closes (record start { stopped = Some (verb, rest) }) k o) (has.below rest) (has.found rest) ∙ or_else_nil (faults s start rest)

  fault_is : fault_of command_line (verb ∷ rest) ≡ faults s start rest
  fault_is = ap₂ closes_at stops no_walk_fault ∙ closing

  subcommand_is : subcommand_of command_line (verb ∷ rest) ≡ Some (verb, rows s start rest)
  subcommand_is = ap (λ (w : Walk). entered (built command_line) w.stopped) stops ∙ has.found rest

-- ---- what the words come to

abbrev pub refuses : Kinds → Bool
refuses [] = false
refuses (k ∷ ks) = true

-- the words are taken, and are read as the table says; or they are refused, and the table has no row for them
abbrev pub Says : List Text → Type 0
Says words = ((fault_of command_line words ≡ []) × (matched (subcommand_of command_line words) ≡ asked words))
    ⊎ ((refuses (fault_of command_line words) ≡ true) × (asked words ≡ Err BadWords))

both : (a b : Bool) → (a && b) ≡ true → (a ≡ true) × (b ≡ true)
both true b e = (refl, e)
both false b e = absurd (search rules)

module _ (verb : Text) (s : Shape) (has : Has verb s) (rest : List Text) where
  taken : faults s start rest ≡ [] → chosen verb (rows s start rest) ≡ asked (verb ∷ rest) → Says (verb ∷ rest)
  taken none is = inl (fault_is verb s has rest ∙ none, ap matched (subcommand_is verb s has rest) ∙ is)

  refused : refuses (faults s start rest) ≡ true → asked (verb ∷ rest) ≡ Err BadWords → Says (verb ∷ rest)
  refused some is = inr (ap refuses (fault_is verb s has rest) ∙ some, is)

-- the table has no row of three words or more, but for these verbs
either_way : {X : Type 0} {x : X} (b : Bool) → cond b x x ≡ x
either_way true = refl
either_way false = refl

no_row : (verb a b : Text) (rest : List Text) → bytes_eq verb (codes "load") ≡ false → bytes_eq verb (codes "format") ≡ false → asked (verb ∷ a ∷ b ∷ rest) ≡ Err BadWords
no_row verb a b [] l f = rw l refl
no_row verb a b (c ∷ []) l f = rw f refl
no_row verb a b (c ∷ d ∷ rest) l f = refl

-- what waits in a place that was given a word
abbrev held_after : Shape → Held → ℕ → Text → Held
held_after s h i word = (to_positional s.rules (arg_by_index s.rules i) word (at h i) h).held

-- what a folder comes to, by whether it is a word at all
abbrev given : Bool → Kinds
given b = or_else (cond b [] (kind.InvalidValue ∷ [])) []

some_bytes : (x : ℕ) (xs : Text) → nat_lt 0 (length (x ∷ xs)) ≡ true
some_bytes x xs = lt-ltb 0 (length (x ∷ xs)) (omega arith)

a_folder : (x : ℕ) (xs : Text) → is_folder (x ∷ xs) ≡ true
a_folder x xs = le-leb 1 (length (x ∷ xs)) (omega arith)

run_says : (rest : List Text) → list_all is_plain rest ≡ true → Says (codes "run" ∷ rest)
unfolding clap_on_literals
run_says [] e = taken (codes "run") (leaf run) has_run [] refl refl
run_says ([] ∷ []) e = refused (codes "run") (leaf run) has_run ([] ∷ [])
    (ap refuses (next_faults (leaf run) nothing_held (held_after (leaf run) nothing_held 1 []) 1 2 [] [] refl refl)) refl
run_says ((x ∷ xs) ∷ []) e =
    let d : Text = x ∷ xs in
    let p = (both (is_plain d) true e).0 in
    taken (codes "run") (leaf run) has_run (d ∷ [])
    (next_faults (leaf run) nothing_held (held_after (leaf run) nothing_held 1 d) 1 2 d [] p refl ∙ ap (λ b. or_else (given b) []) (some_bytes x xs))
    (ap (chosen (codes "run")) (next_rows (leaf run) nothing_held (held_after (leaf run) nothing_held 1 d) 1 2 d [] p refl)
    ∙ ap (λ b. cond b (Ok (Run (Some d))) (Err BadWords)) (sym (a_folder x xs)))
run_says (a ∷ b ∷ rest) e =
    let p = both (is_plain a) (list_all is_plain (b ∷ rest)) e in
    let q = both (is_plain b) (list_all is_plain rest) p.1 in
    let h = held_after (leaf run) nothing_held 1 a in
    refused (codes "run") (leaf run) has_run (a ∷ b ∷ rest)
    (ap refuses (next_faults (leaf run) nothing_held h 1 2 a (b ∷ rest) p.0 refl ∙ next_faults (leaf run) h (held_after (leaf run) h 2 b) 2 2 b rest q.0 refl))
    (no_row (codes "run") a b rest refl refl)

show_says : (rest : List Text) → list_all is_plain rest ≡ true → Says (codes "show" ∷ rest)
unfolding clap_on_literals
show_says [] e = refused (codes "show") (leaf show) has_show [] refl refl
show_says ([] ∷ []) e = refused (codes "show") (leaf show) has_show ([] ∷ [])
    (ap refuses (next_faults (leaf show) nothing_held (held_after (leaf show) nothing_held 1 []) 1 2 [] [] refl refl)) refl
show_says ((x ∷ xs) ∷ []) e =
    let d : Text = x ∷ xs in
    let p = (both (is_plain d) true e).0 in
    taken (codes "show") (leaf show) has_show (d ∷ [])
    (next_faults (leaf show) nothing_held (held_after (leaf show) nothing_held 1 d) 1 2 d [] p refl ∙ ap (λ b. or_else (given b) []) (some_bytes x xs))
    (ap (chosen (codes "show")) (next_rows (leaf show) nothing_held (held_after (leaf show) nothing_held 1 d) 1 2 d [] p refl)
    ∙ ap (λ b. cond b (Ok (Show d)) (Err BadWords)) (sym (a_folder x xs)))
show_says (a ∷ b ∷ rest) e =
    let p = both (is_plain a) (list_all is_plain (b ∷ rest)) e in
    let q = both (is_plain b) (list_all is_plain rest) p.1 in
    let h = held_after (leaf show) nothing_held 1 a in
    refused (codes "show") (leaf show) has_show (a ∷ b ∷ rest)
    (ap refuses (next_faults (leaf show) nothing_held h 1 2 a (b ∷ rest) p.0 refl ∙ next_faults (leaf show) h (held_after (leaf show) h 2 b) 2 2 b rest q.0 refl))
    (no_row (codes "show") a b rest refl refl)

-- the table has no row of four words or more behind another verb than `format`
no_load : (a b c : Text) (rest : List Text) → asked (codes "load" ∷ a ∷ b ∷ c ∷ rest) ≡ Err BadWords
no_load a b c [] = refl
no_load a b c (d ∷ rest) = refl

load_says : (rest : List Text) → list_all is_plain rest ≡ true → Says (codes "load" ∷ rest)
unfolding clap_on_literals
load_says [] e = refused (codes "load") (leaf load) has_load [] refl refl
load_says (a ∷ []) e =
    let p = both (is_plain a) true e in
    refused (codes "load") (leaf load) has_load (a ∷ [])
    (ap refuses (next_faults (leaf load) nothing_held (held_after (leaf load) nothing_held 1 a) 1 2 a [] p.0 refl)) (no_alone a)
  where
    no_alone : (a : Text) → asked (codes "load" ∷ a ∷ []) ≡ Err BadWords
    no_alone a = either_way (is_folder a)
load_says (a ∷ b ∷ []) e =
    let p = both (is_plain a) (list_all is_plain (b ∷ [])) e in
    let q = both (is_plain b) true p.1 in
    let h = held_after (leaf load) nothing_held 1 a in
    let k = held_after (leaf load) h 2 b in
    taken (codes "load") (leaf load) has_load (a ∷ b ∷ [])
    (next_faults (leaf load) nothing_held h 1 2 a (b ∷ []) p.0 refl ∙ next_faults (leaf load) h k 2 3 b [] q.0 refl)
    (ap (chosen (codes "load")) (next_rows (leaf load) nothing_held h 1 2 a (b ∷ []) p.0 refl ∙ next_rows (leaf load) h k 2 3 b [] q.0 refl))
load_says (a ∷ b ∷ c ∷ rest) e =
    let p = both (is_plain a) (list_all is_plain (b ∷ c ∷ rest)) e in
    let q = both (is_plain b) (list_all is_plain (c ∷ rest)) p.1 in
    let r = both (is_plain c) (list_all is_plain rest) q.1 in
    let h = held_after (leaf load) nothing_held 1 a in
    let k = held_after (leaf load) h 2 b in
    refused (codes "load") (leaf load) has_load (a ∷ b ∷ c ∷ rest)
    (ap refuses (next_faults (leaf load) nothing_held h 1 2 a (b ∷ c ∷ rest) p.0 refl ∙ next_faults (leaf load) h k 2 3 b (c ∷ rest) q.0 refl
    ∙ next_faults (leaf load) k (held_after (leaf load) k 3 c) 3 3 c rest r.0 refl))
    (no_load a b c rest)

format_says : (rest : List Text) → list_all is_plain rest ≡ true → Says (codes "format" ∷ rest)
unfolding clap_on_literals
format_says [] e = refused (codes "format") (leaf format) has_format [] refl refl
format_says ([] ∷ []) e = refused (codes "format") (leaf format) has_format ([] ∷ [])
    (ap refuses (next_faults (leaf format) nothing_held (held_after (leaf format) nothing_held 1 []) 1 2 [] [] refl refl)) refl
format_says ((x ∷ xs) ∷ []) e =
    let d : Text = x ∷ xs in
    let p = both (is_plain d) true e in
    refused (codes "format") (leaf format) has_format (d ∷ [])
    (ap refuses (next_faults (leaf format) nothing_held (held_after (leaf format) nothing_held 1 d) 1 2 d [] p.0 refl)
    ∙ ap (λ b. refuses (or_else (given b) (kind.MissingRequiredArgument ∷ []))) (some_bytes x xs))
    (either_way (is_folder d))
format_says ([] ∷ a ∷ rest) e =
    let p = both (is_plain a) (list_all is_plain rest) e in
    let h = held_after (leaf format) nothing_held 1 [] in
    refused (codes "format") (leaf format) has_format ([] ∷ a ∷ rest)
    (ap refuses (next_faults (leaf format) nothing_held h 1 2 [] (a ∷ rest) refl refl
    ∙ next_faults (leaf format) h (held_after (leaf format) h 2 a) 2 3 a rest p.0 refl))
    (no_folder a rest)
  where
    no_folder : (a : Text) (rest : List Text) → asked (codes "format" ∷ [] ∷ a ∷ rest) ≡ Err BadWords
    no_folder a [] = refl
    no_folder a (b ∷ []) = refl
    no_folder a (b ∷ c ∷ rest) = refl
format_says ((x ∷ xs) ∷ a ∷ []) e =
    let d : Text = x ∷ xs in
    let p = both (is_plain d) (list_all is_plain (a ∷ [])) e in
    let q = both (is_plain a) true p.1 in
    let h = held_after (leaf format) nothing_held 1 d in
    let k = held_after (leaf format) h 2 a in
    refused (codes "format") (leaf format) has_format (d ∷ a ∷ [])
    (ap refuses (next_faults (leaf format) nothing_held h 1 2 d (a ∷ []) p.0 refl ∙ next_faults (leaf format) h k 2 3 a [] q.0 refl)
    ∙ ap (λ b. refuses (or_else (given b) (kind.MissingRequiredArgument ∷ []))) (some_bytes x xs))
    refl
format_says ((x ∷ xs) ∷ a ∷ b ∷ []) e =
    let d : Text = x ∷ xs in
    let p = both (is_plain d) (list_all is_plain (a ∷ b ∷ [])) e in
    let q = both (is_plain a) (list_all is_plain (b ∷ [])) p.1 in
    let r = both (is_plain b) true q.1 in
    let h = held_after (leaf format) nothing_held 1 d in
    let k = held_after (leaf format) h 2 a in
    let l = held_after (leaf format) k 3 b in
    taken (codes "format") (leaf format) has_format (d ∷ a ∷ b ∷ [])
    (next_faults (leaf format) nothing_held h 1 2 d (a ∷ b ∷ []) p.0 refl ∙ next_faults (leaf format) h k 2 3 a (b ∷ []) q.0 refl
    ∙ ap (λ t. or_else (given t) (faults (leaf format) (at k 3) (b ∷ []))) (some_bytes x xs) ∙ next_faults (leaf format) k l 3 4 b [] r.0 refl)
    (ap (chosen (codes "format")) (next_rows (leaf format) nothing_held h 1 2 d (a ∷ b ∷ []) p.0 refl
    ∙ next_rows (leaf format) h k 2 3 a (b ∷ []) q.0 refl ∙ next_rows (leaf format) k l 3 4 b [] r.0 refl)
    ∙ ap (λ t. cond t (table.format d (table.number_of a) (table.number_of b)) (Err BadWords)) (sym (a_folder x xs)))
format_says ((x ∷ xs) ∷ a ∷ b ∷ c ∷ rest) e =
    let d : Text = x ∷ xs in
    let p = both (is_plain d) (list_all is_plain (a ∷ b ∷ c ∷ rest)) e in
    let q = both (is_plain a) (list_all is_plain (b ∷ c ∷ rest)) p.1 in
    let r = both (is_plain b) (list_all is_plain (c ∷ rest)) q.1 in
    let u = both (is_plain c) (list_all is_plain rest) r.1 in
    let h = held_after (leaf format) nothing_held 1 d in
    let k = held_after (leaf format) h 2 a in
    let l = held_after (leaf format) k 3 b in
    refused (codes "format") (leaf format) has_format (d ∷ a ∷ b ∷ c ∷ rest)
    (ap refuses (next_faults (leaf format) nothing_held h 1 2 d (a ∷ b ∷ c ∷ rest) p.0 refl
    ∙ next_faults (leaf format) h k 2 3 a (b ∷ c ∷ rest) q.0 refl
    ∙ ap (λ t. or_else (given t) (faults (leaf format) (at k 3) (b ∷ c ∷ rest))) (some_bytes x xs)
    ∙ next_faults (leaf format) k l 3 4 b (c ∷ rest) r.0 refl
    ∙ next_faults (leaf format) l (held_after (leaf format) l 4 c) 4 4 c rest u.0 refl))
    refl

-- ---- a first word that is no verb

turned : (a b : Text) → bytes_eq a b ≡ false → bytes_eq b a ≡ false
turned a b e = go (bytes_eq b a) refl
  where
    go : (t : Bool) → bytes_eq b a ≡ t → bytes_eq b a ≡ false
    go false same = same
    go true same =
        let bad : true ≡ false = sym ((bytes_eq-Decides a b).1 (sym ((bytes_eq-Decides b a).0 same))) ∙ e in
        absurd (search rules)

abbrev first_of_four : Bool → Bool → Bool → Bool → Option Text
first_of_four a b c d = option_map (λ (s : Text × List Text). s.0)
    (cond (a || false) (Some (codes "run", [])) (cond (b || false) (Some (codes "show", []))
    (cond (c || false) (Some (codes "load", [])) (cond (d || false) (Some (codes "format", [])) None))))

module _ (verb : Text) (rest : List Text) (plain : is_plain verb ≡ true) (run : bytes_eq verb (codes "run") ≡ false) (show : bytes_eq verb (codes "show") ≡ false)
    (load : bytes_eq verb (codes "load") ≡ false) (format : bytes_eq verb (codes "format") ≡ false) where
  meets_none : subcommand_met names idle verb ≡ None
  meets_none =
      ap (λ t. first_of_four t (bytes_eq (codes "show") verb) (bytes_eq (codes "load") verb) (bytes_eq (codes "format") verb)) (turned verb (codes "run") run)
      ∙ ap (λ t. first_of_four false t (bytes_eq (codes "load") verb) (bytes_eq (codes "format") verb)) (turned verb (codes "show") show)
      ∙ ap (λ t. first_of_four false false t (bytes_eq (codes "format") verb)) (turned verb (codes "load") load)
      ∙ ap (λ t. first_of_four false false false t) (turned verb (codes "format") format)

  strays : refuses (fault_of command_line (verb ∷ rest)) ≡ true
  unfolding clap_on_literals
  strays = ap (λ k. refuses (closes_at (fold (walked top.rules names) start (verb ∷ rest)) (or_else k (walk_fault top names (walked top.rules names start verb) rest))))
      (turns names verb plain meets_none top 1 nothing_held)

  no_verb : asked (verb ∷ rest) ≡ Err BadWords
  no_verb = go rest
    where
      go : (rest : List Text) → asked (verb ∷ rest) ≡ Err BadWords
      go [] = rw run refl
      go (a ∷ []) = rw (show, run) (either_way (is_folder a))
      go (a ∷ b ∷ more) = no_row verb a b more load format

  other_says : Says (verb ∷ rest)
  other_says = inr (strays, no_verb)

-- `clap` takes just the words that the table has, and they ask for what it says
pub says : (words : List Text) → list_all is_plain words ≡ true → Says words
unfolding clap_on_literals
says [] e = inr (refl, refl)
says (verb ∷ rest) e = elim (known (codes "run")) [
  | inl is ↦ subst (λ v. Says (v ∷ rest)) (sym is) (run_says rest p.1)
  | inr a ↦ elim (known (codes "show")) [
    | inl is ↦ subst (λ v. Says (v ∷ rest)) (sym is) (show_says rest p.1)
    | inr b ↦ elim (known (codes "load")) [
      | inl is ↦ subst (λ v. Says (v ∷ rest)) (sym is) (load_says rest p.1)
      | inr c ↦ elim (known (codes "format")) [
        | inl is ↦ subst (λ v. Says (v ∷ rest)) (sym is) (format_says rest p.1)
        | inr d ↦ other_says verb rest p.0 a b c d
      ]
    ]
  ]
]
  where
    p : (is_plain verb ≡ true) × (list_all is_plain rest ≡ true)
    p = both (is_plain verb) (list_all is_plain rest) e

    known : (name : Text) → (verb ≡ name) ⊎ (bytes_eq verb name ≡ false)
    known name = go (bytes_eq verb name) refl
      where
        go : (t : Bool) → bytes_eq verb name ≡ t → (verb ≡ name) ⊎ (bytes_eq verb name ≡ false)
        go true same = inl ((bytes_eq-Decides verb name).0 same)
        go false other = inr other

-- ---- what a parse gives

module _ (words : List Text) (plain : list_all is_plain words ≡ true) (a : App) (is : a ≡ command_line) where
  in_table : asked words ≡ command_of words
  in_table = ap (λ b. cond b (asked words) (Err BadWords)) (sym plain)

  pub reads : (found : Option (Text × List Row)) → (is_simple_and_free a ≡ true → fault_of a words ≡ [])
      → (is_simple a ≡ true → found ≡ subcommand_of a words) → matched found ≡ command_of words
  reads found none same = elim (says words plain) [
    | inl h ↦ ap matched (same (ap is_simple is ∙ line_is_simple.0) ∙ ap (λ x. subcommand_of x words) is) ∙ (h.1 ∙ in_table)
    | inr h ↦
        let bad : false ≡ true = ap refuses (sym (none (ap is_simple_and_free is ∙ line_is_simple.1)) ∙ ap (λ x. fault_of x words) is) ∙ h.0 in
        absurd (search rules)
  ]

  pub refuses_bad : (k : ErrorKind) → (is_simple_and_free a ≡ true → (k ≡ kind.OutOfMemory) ⊎ IsAmong k (fault_of a words))
      → k ≢ kind.OutOfMemory → command_of words ≡ Err BadWords
  refuses_bad k fails other = elim (says words plain) [
    | inl h ↦ elim (fails (ap is_simple_and_free is ∙ line_is_simple.1)) [
      | inl memory ↦ absurd (other memory)
      | inr among ↦ absurd (subst (IsAmong k) (ap (λ x. fault_of x words) is ∙ h.0) among)
    ]
    | inr h ↦ sym in_table ∙ h.1
  ]
