-- Document 01, "Tracking record, 20 bytes: key 13, tag 1, two zero bytes, server 4 big-endian." A table is a list of bytes; what stands
-- behind its last whole record belongs to no record.
use Rattle.std.specs.Prelude.{ℕ, zero, suc, ◌+◌, ◌*◌, ◌-◌, ◌/◌, Bool, true, false, cond, ◌||◌, List, [], ◌∷◌, ◌++◌, map, eqb, ltb, length, get_or, set, take, drop, replicate}
use Rattle.bigendian.specs.BigEndian.{bytes4, number4_at}
use Rattle.spans.specs.Spans.{same, zeroed}
use Rattle.table.specs.declared.Found.{Found}
use Rattle.table.specs.declared.Found.TheVariants.{At, Nothing}

-- the sizes of a record and of its key, and where its tag and its server stand, counted from 0
abbrev pub record_bytes : ℕ
record_bytes = 20

abbrev pub key_bytes : ℕ
key_bytes = 13

abbrev pub tag_offset : ℕ
tag_offset = 13

abbrev pub server_offset : ℕ
server_offset = 16

-- the tag of a new record: "tag 1"; and of a half-closed one: request [1], "The first end on a record now sets its tag to 2"
abbrev pub new_tag : ℕ
new_tag = 1

abbrev pub half_closed_tag : ℕ
half_closed_tag = 2

-- refusal 9: "table length 0, above 65,520 or not a multiple of 20"
abbrev pub most_table_bytes : ℕ
most_table_bytes = 65520

-- the parts of a record
abbrev pub key_of : List ℕ → List ℕ
key_of r = take key_bytes r

abbrev pub tag_of : List ℕ → ℕ
tag_of r = get_or r tag_offset 0

abbrev pub server_of : List ℕ → ℕ
server_of r = number4_at r server_offset

-- the tags that make a record used: request [1], "The used part runs over tags 1 and 2."
unfoldable pub used_tag : ℕ → Bool
used_tag tag = eqb tag new_tag || eqb tag half_closed_tag

-- the first n records of a table, and all of them
unfoldable pub first_records : ℕ → List ℕ → List (List ℕ)
first_records zero t = []
first_records (suc n) t = take record_bytes t ∷ first_records n (drop record_bytes t)

unfoldable pub records_of : List ℕ → List (List ℕ)
records_of t = first_records (length t / record_bytes) t

-- "The used part of a table is all records before the first whose tag is not" a used one
unfoldable pub used_among : List (List ℕ) → List (List ℕ)
used_among [] = []
used_among (r ∷ rs) = cond (used_tag (tag_of r)) (r ∷ used_among rs) []

unfoldable pub used_part : List ℕ → List (List ℕ)
used_part t = used_among (records_of t)

-- how many records are used, and how many the table has room for
abbrev pub used : List ℕ → ℕ
used t = length (used_part t)

abbrev pub room : List ℕ → ℕ
room t = length t / record_bytes

-- whether a key has a record, and "the number of used records read: the place of the record counted from 1, or all records used .. when the key has none"
pub record Finding : Type 0 where
  pub found : Bool
  pub reads : ℕ

-- "A key's record is the first used one with that key."
unfoldable pub find_among : List ℕ → ℕ → List (List ℕ) → Finding
find_among key passed [] = record { found = false; reads = passed }
find_among key passed (r ∷ rs) =
    cond (same (key_of r) key) (record { found = true; reads = passed + 1 }) (find_among key (passed + 1) rs)

unfoldable pub find : List ℕ → List ℕ → Finding
find key t = find_among key 0 (used_part t)

-- what each case of the answer tells
abbrev pub finding_of : Found → Finding
finding_of (At place) = record { found = true; reads = place }
finding_of (Nothing used) = record { found = false; reads = used }

-- the server that the record at a place, counted from 1, names (0 where the table has no such place)
unfoldable pub server_at : ℕ → List ℕ → ℕ
server_at zero t = 0
server_at (suc i) t = server_of (get_or (records_of t) i [])

-- the tag of the record at a place, counted from 1 (0 where the table has no such place)
unfoldable pub tag_at : ℕ → List ℕ → ℕ
tag_at zero t = 0
tag_at (suc i) t = tag_of (get_or (records_of t) i [])

-- the bytes of records, one after the other
unfoldable pub bytes_of : List (List ℕ) → List ℕ
bytes_of [] = []
bytes_of (r ∷ rs) = r ++ bytes_of rs

-- a new record's bytes: "key 13, tag 1, two zero bytes, server 4 big-endian"
abbrev pub new_record : List ℕ → ℕ → List ℕ
new_record key s = key ++ (new_tag ∷ 0 ∷ 0 ∷ bytes4 s)

-- a new record behind the first n; a table without such a place stays as it is
unfoldable pub written_after : ℕ → List ℕ → ℕ → List ℕ → List ℕ
written_after n key s t = cond (ltb n (room t)) (take (n * record_bytes) t ++ (new_record key s ++ drop ((n + 1) * record_bytes) t)) t

-- "A new record goes into the first unused place."; with every place used there is no room, and the table stays as it is
abbrev pub appended : List ℕ → ℕ → List ℕ → List ℕ
appended key s t = written_after (used t) key s t

-- fewer records in the used part's place: what was used and is not any more is zeroed, and "later bytes stay"
unfoldable pub packed : List (List ℕ) → List ℕ → List ℕ
packed rs t = bytes_of rs ++ (replicate ((used t - length rs) * record_bytes) 0 ++ drop (used t * record_bytes) t)

-- the list without its element at a place counted from 1
unfoldable pub without : ℕ → List (List ℕ) → List (List ℕ)
without zero rs = rs
without (suc i) [] = []
without (suc zero) (r ∷ rs) = rs
without (suc (suc i)) (r ∷ rs) = r ∷ without (suc i) rs

-- "Removal closes the gap, keeps the order, and zeroes the last formerly used record; later bytes stay." A place outside the used part removes nothing.
unfoldable pub removed : ℕ → List ℕ → List ℕ
removed place t = packed (without place (used_part t)) t

-- request [1], "sets its tag to 2": the tag of the record at a place, counted from 1, becomes 2, and every other byte stays. A place outside
-- the used part changes nothing.
unfoldable pub half_closed : ℕ → List ℕ → List ℕ
half_closed zero t = t
half_closed (suc i) t = cond (ltb i (used t)) (set t (i * record_bytes + tag_offset) half_closed_tag) t

-- the records that don't name a server
unfoldable pub not_naming : ℕ → List (List ℕ) → List (List ℕ)
not_naming s [] = []
not_naming s (r ∷ rs) = cond (eqb (server_of r) s) (not_naming s rs) (r ∷ not_naming s rs)

-- "Remove working takes away every record naming that server."
unfoldable pub removed_server : ℕ → List ℕ → List ℕ
removed_server s t = packed (not_naming s (used_part t)) t

-- "Starting zeroes the whole table"
abbrev pub started : List ℕ → List ℕ
started t = zeroed t

-- the used part as a list of records: key, tag and server of each
pub record Rec : Type 0 where
  pub key : List ℕ
  pub tag : ℕ
  pub server : ℕ

abbrev pub rec_of : List ℕ → Rec
rec_of r = record { key = key_of r; tag = tag_of r; server = server_of r }

abbrev pub entries : List ℕ → List Rec
entries t = map rec_of (used_part t)

-- no used tag stands behind the used part
unfoldable pub none_used : List (List ℕ) → Bool
none_used [] = true
none_used (r ∷ rs) = cond (used_tag (tag_of r)) false (none_used rs)

unfoldable pub no_stray : List ℕ → Bool
no_stray t = none_used (drop (used t) (records_of t))
