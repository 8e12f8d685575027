-- The script of a load, line by line. Tables and rounds are counted from 0.
use Rattle.std.specs.Prelude.{◌+◌, ◌*◌, ◌%◌, ◌++◌, ◌∷◌, ℕ, List, [], codes, map}
use Rattle.std.specs.Fmt.{decimal}
use Rattle.std.specs.List.{flat_map, range_with_len}
use Rattle.workload.specs.Numbers.{drawn}

-- lines as a text, each ended by a line feed
unfoldable pub script_text : List (List ℕ) → List ℕ
script_text lines = flat_map (λ line. line ++ 10 ∷ []) lines

-- the numbers of the tables
abbrev pub table_numbers : List ℕ
table_numbers = 0 ∷ 1 ∷ 2 ∷ 3 ∷ []

-- the rows of each table at first
unfoldable pub first_rows : List ℕ
first_rows =
    codes "(0,0),(1,0),(2,0),(3,0),(4,0),(5,0),(6,0),(7,0),(8,0),(9,0),"
    ++ codes "(10,0),(11,0),(12,0),(13,0),(14,0),(15,0),(16,0),(17,0),(18,0),(19,0)"

-- a table is made
unfoldable pub create_line : ℕ → List ℕ
create_line table = codes "CREATE TABLE t" ++ (decimal table ++ codes "(a INT, b INT)")

-- a table gets rows
unfoldable pub insert_line : ℕ → List ℕ → List ℕ
insert_line table rows = codes "INSERT INTO t" ++ (decimal table ++ (codes " VALUES " ++ rows))

-- a table is made, with its first rows
unfoldable pub table_lines : ℕ → List (List ℕ)
table_lines table = create_line table ∷ insert_line table first_rows ∷ []

-- the first phase: the tables are made, and declared as a snapshot
unfoldable pub making_lines : List (List ℕ)
making_lines =
    codes "PHASE" ∷ codes "SESSION s" ∷ (flat_map table_lines table_numbers ++ codes "COMMIT WITH SNAPSHOT" ∷ [])

-- the session of a table, which adds a value to a row
unfoldable pub update_lines : ℕ → ℕ → ℕ → List (List ℕ)
update_lines table row value =
    (codes "SESSION s" ++ decimal table)
    ∷ (codes "UPDATE t" ++ (decimal table
    ++ (codes " SET b = b + " ++ (decimal value ++ (codes " WHERE a = " ++ decimal row)))))
    ∷ codes "COMMIT" ∷ []

-- the row that the session of a table changes in a round
abbrev pub row_of : ℕ → ℕ → ℕ → ℕ
row_of seed round table = drawn seed (8 * round + 2 * table + 1) % 20

-- the value that it adds there
abbrev pub value_of : ℕ → ℕ → ℕ → ℕ
value_of seed round table = 1 + drawn seed (8 * round + 2 * table + 2) % 99

-- the session of a table in a round
unfoldable pub drawn_lines : ℕ → ℕ → ℕ → List (List ℕ)
drawn_lines seed round table = update_lines table (row_of seed round table) (value_of seed round table)

-- the sessions of a round
unfoldable pub updating_lines : ℕ → ℕ → List (List ℕ)
updating_lines seed round = flat_map (drawn_lines seed round) table_numbers

-- a phase that declares a snapshot
unfoldable pub declaring_lines : List (List ℕ)
declaring_lines = codes "PHASE" ∷ codes "SESSION s" ∷ codes "COMMIT WITH SNAPSHOT" ∷ []

-- a round: a phase with a session for each table, and a phase that declares a snapshot
unfoldable pub round_lines : ℕ → ℕ → List (List ℕ)
round_lines seed round = codes "PHASE" ∷ (updating_lines seed round ++ declaring_lines)

-- the sum of a table is asked
unfoldable pub sum_line : ℕ → List ℕ
sum_line table = codes "SELECT SUM(b) FROM t" ++ decimal table

-- the last phase: what the snapshots hold of table 0, and what the tables hold
unfoldable pub asking_lines : List (List ℕ)
asking_lines =
    codes "PHASE" ∷ codes "SESSION s"
    ∷ codes "AggregateDataInVariable('SELECT snap_id FROM SnapIds','SELECT SUM(b) FROM t0','rql_v','SUM')"
    ∷ codes "SELECT value FROM rql_v"
    ∷ (map sum_line table_numbers ++ codes "COMMIT" ∷ [])

-- the script of a load with this seed and so many rounds
unfoldable pub load_lines : ℕ → ℕ → List (List ℕ)
load_lines seed rounds = making_lines ++ (flat_map (round_lines seed) (range_with_len 0 rounds) ++ asking_lines)
