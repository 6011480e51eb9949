-- The paths of a workspace's files (docs/PROFILE.md, "Paths"; this project's own choice).
--
-- A path is one or more segments with `/` between them, and at most 200 bytes in all. A segment has
-- one byte or more, each a letter, a digit, `_`, `.` or `-`, and it is neither `.` nor `..`. So
-- `...` is a segment.
use Rattle.std.specs.Prelude.{ℕ, ◌-◌, Bool, not, ◌&&◌, ◌||◌, ◌==◌, nat_le, List, length, drop}
use Rattle.std.specs.Prelude.{codes}
use Rattle.std.specs.Char.{is_ascii_alphanumeric}
use Rattle.std.specs.List.{list_all, slice_split, suffix_len}
use Rattle.std.specs.Str.{bytes_eq}

-- the most bytes of a path
abbrev pub path_limit : ℕ
path_limit = 200

-- the byte `/`, which stands between a path's segments
abbrev pub is_slash : ℕ → Bool
is_slash b = b == 47

-- a letter, a digit, `_`, `.` or `-`
abbrev pub is_segment_byte : ℕ → Bool
is_segment_byte b = is_ascii_alphanumeric b || ((b == 95 || b == 46) || b == 45)

-- `.` and `..`, which would be the folder itself and the one above it
abbrev pub is_dots : List ℕ → Bool
is_dots segment = bytes_eq segment (codes ".") || bytes_eq segment (codes "..")

-- what may stand between the slashes of a path: legal bytes, at least one, and neither `.` nor `..`
abbrev pub is_segment : List ℕ → Bool
is_segment segment =
    (not (length segment == 0) && not (is_dots segment)) && list_all is_segment_byte segment

-- each of the parts between slashes is a segment
unfoldable pub are_segments : List ℕ → Bool
are_segments text = list_all is_segment (slice_split is_slash text)

-- a text that names a file or a package: segments with slashes between them, short enough
abbrev pub is_path : List ℕ → Bool
is_path text = nat_le (length text) path_limit && are_segments text

-- what stands after the last slash of a text, or all of it where it has none
abbrev pub last_segment : List ℕ → List ℕ
last_segment text = drop (length text - suffix_len (λ b. not (is_slash b)) text) text
