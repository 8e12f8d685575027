-- The words of the program, and what they ask for.
use Rattle.std.specs.Prelude.{◌≡◌, ◌≤◌, ◌==◌, ◌&&◌, ℕ, Bool, true, not, List, [], ◌∷◌, length, nat_le, codes}
use Rattle.std.specs.Prelude.{if◌then◌else◌, Option, Some, None, Result, Ok, Err, String, map, string_bytes}
use Rattle.std.specs.List.{list_all}
use Rattle.std.specs.Option.{option_map}
use Rattle.std.specs.Char.{is_ascii_digit}
use Rattle.std.specs.Str.{bytes_eq}
use Rattle.std.specs.Str.Parse.{digits_value}
use Rattle.retro_base.specs.declared.limits.TheConstants.{MAX_CAPACITY, MAX_PAGES, MIN_CAPACITY, MIN_PAGES}
use Rattle.store_format.specs.Empty.{AreInRange}
use Rattle.retro.specs.declared.words.Command.{Command}
use Rattle.retro.specs.declared.words.Command.TheVariants.{Format, Load, Run, Show}
use Rattle.retro.specs.declared.words.Mistake.{Mistake}
use Rattle.retro.specs.declared.words.TheConstants.{LAST_SEED, MOST_ROUNDS}
use Rattle.retro.specs.declared.words.Mistake.TheVariants.{BadSizes, BadWords, OutOfMemory}

-- a command, with its folder seen by `f`
abbrev pub on_folder : {A B : Type 0} → (A → B) → Command A → Command B
on_folder f (Run dir) = Run (option_map f dir)
on_folder f (Format dir sizes) = Format (f dir) sizes
on_folder f (Show dir) = Show (f dir)
on_folder f (Load seed rounds) = Load seed rounds

-- an answer, with its folder seen by `view`, is what the table says, unless memory ran out
abbrev pub Answers : {A : Type 0} → (A → List ℕ) → Result (Command A) Mistake → Result (Command (List ℕ)) Mistake
    → Type 0
Answers view (Ok command) asked = asked ≡ Ok (on_folder view command)
Answers view (Err OutOfMemory) asked = Unit {0}
Answers view (Err mistake) asked = asked ≡ Err mistake

-- the word does not begin with a hyphen
abbrev pub is_plain : List ℕ → Bool
is_plain [] = true
is_plain (first ∷ rest) = not (first == 45)

-- it names a folder
abbrev pub is_folder : List ℕ → Bool
is_folder word = nat_le 1 (length word)

-- 1 to 10 decimal digits
abbrev pub is_number : List ℕ → Bool
is_number word = nat_le 1 (length word) && (nat_le (length word) 10 && list_all is_ascii_digit word)

-- the number of 1 to 10 decimal digits
abbrev pub number_of : List ℕ → Option ℕ
number_of word = if is_number word then Some (digits_value 10 word) else None

-- the making of a store of that many pages and page images, where these are in their ranges
abbrev pub format : List ℕ → Option ℕ → Option ℕ → Result (Command (List ℕ)) Mistake
format dir (Some pages) (Some capacity) =
    if nat_le MIN_PAGES pages && (nat_le pages MAX_PAGES
    && (nat_le MIN_CAPACITY capacity && nat_le capacity MAX_CAPACITY))
    then Ok (Format dir (record { pages = pages; capacity = capacity }))
    else Err BadSizes
format dir pages capacity = Err BadWords

-- the load of a seed and so many rounds, where these are in their ranges
abbrev pub load : Option ℕ → Option ℕ → Result (Command (List ℕ)) Mistake
load (Some seed) (Some rounds) =
    if nat_le seed LAST_SEED && (nat_le 1 rounds && nat_le rounds MOST_ROUNDS) then Ok (Load seed rounds)
    else Err BadSizes
load seed rounds = Err BadWords

-- what a word asks for of the store in a folder
abbrev pub of_folder : List ℕ → List ℕ → Result (Command (List ℕ)) Mistake
of_folder verb dir =
    if bytes_eq verb (codes "show") then Ok (Show dir)
    else if bytes_eq verb (codes "run") then Ok (Run (Some dir))
    else Err BadWords

-- a store is made of sizes in their ranges alone, and a load of such a seed
abbrev pub IsReady : {A : Type 0} → Command A → Type 0
IsReady (Format dir sizes) = AreInRange sizes
IsReady (Load seed rounds) = seed ≤ LAST_SEED
IsReady command = Unit {0}

-- the table of good words
abbrev pub asked : List (List ℕ) → Result (Command (List ℕ)) Mistake
asked (verb ∷ []) = if bytes_eq verb (codes "run") then Ok (Run None) else Err BadWords
asked (verb ∷ dir ∷ []) = if is_folder dir then of_folder verb dir else Err BadWords
asked (verb ∷ seed ∷ rounds ∷ []) =
    if bytes_eq verb (codes "load") then load (number_of seed) (number_of rounds) else Err BadWords
asked (verb ∷ dir ∷ pages ∷ capacity ∷ []) =
    if bytes_eq verb (codes "format") && is_folder dir then format dir (number_of pages) (number_of capacity)
    else Err BadWords
asked words = Err BadWords

-- what the words ask for, or why not; no word begins with a hyphen
abbrev pub command_of : List (List ℕ) → Result (Command (List ℕ)) Mistake
command_of words = if list_all is_plain words then asked words else Err BadWords

-- the same of words as the program has them
abbrev pub asked_by : {A : Type 0} → List (String A) → Result (Command (List ℕ)) Mistake
asked_by words = command_of (map (λ word. string_bytes word) words)
