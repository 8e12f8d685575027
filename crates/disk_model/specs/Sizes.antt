-- The bytes of the four devices of a store.
use Rattle.std.specs.Prelude.{ℕ, ◌+◌, ◌*◌}

-- one of the two regions of the log's device
abbrev pub log_half : ℕ
log_half = 16777216

abbrev pub log_bytes : ℕ
log_bytes = 2 * log_half

-- for that many pages
abbrev pub pages_bytes : ℕ → ℕ
pages_bytes pages = 1024 * pages

-- for an archive of that many page images
abbrev pub pagelog_bytes : ℕ → ℕ
pagelog_bytes capacity = 1024 * capacity

-- one of the two regions of the Maplog's device, for an archive of that many page images
abbrev pub maplog_half : ℕ → ℕ
maplog_half capacity = 32 * capacity + 4096

-- both
abbrev pub maplog_bytes : ℕ → ℕ
maplog_bytes capacity = 2 * maplog_half capacity
