-- The requests of a session's lines.
use Rattle.std.specs.Prelude.{◌≡◌, ℕ, ◌+◌, ◌*◌, nat_lt, ◌==◌, ◌&&◌, List, [], ◌∷◌, length}
use Rattle.std.specs.Prelude.{slice_index, map, take_while, count_by, All, Bool, true, false}
use Rattle.std.specs.Prelude.{if◌then◌else◌, Option, Some, None, ⊤}
use Rattle.std.specs.List.{slice_split}
use Rattle.trap_model.specs.declared.request.Request.{Request}
use Rattle.trap_model.specs.declared.request.Request.TheVariants.{Write, Read, At, By, Info, Keep}
use Rattle.trap_model.specs.declared.request.Request.TheVariants.{Quit, Bad}
use Rattle.trap_script.specs.declared.lines.Line.{Line}
use Rattle.trap_script.specs.declared.lines.Line.TheVariants as line
pub use Rattle.trap_script.specs.Forms.{quit_form, read_request, read_form, write_request}
pub use Rattle.trap_script.specs.Forms.{write_form, both_numbers, two_numbers, at_request, at_form}
pub use Rattle.trap_script.specs.Forms.{by_request, by_form, info_form}

-- the space between fields
abbrev pub is_space : ℕ → Bool
is_space byte = byte == 32

-- the end of a line
abbrev pub is_line_feed : ℕ → Bool
is_line_feed byte = byte == 10

-- the name is this one letter
abbrev pub is_letter : List ℕ → ℕ → Bool
is_letter name letter = length name == 1 && slice_index name 0 == letter

-- what a line's first field and the fields after it ask, over blocks of that size
abbrev pub form_of : ℕ → List ℕ → List (List ℕ) → Request
form_of size name fields =
    if is_letter name 81 then quit_form fields
    else if is_letter name 82 then read_form fields
    else if is_letter name 87 then write_form size fields
    else if is_letter name 65 then at_form fields
    else if is_letter name 84 then by_form fields
    else if is_letter name 73 then info_form fields
    else Bad

abbrev pub request_of_fields : ℕ → List (List ℕ) → Request
request_of_fields size [] = Bad
request_of_fields size (name ∷ fields) = form_of size name fields

-- how many bytes a line has at most, over blocks of that size
abbrev pub longest_line : ℕ → ℕ
longest_line size = 44 + 2 * size

-- what a line asks, over blocks of that size; its fields are parted by one space
abbrev pub request_of : ℕ → List ℕ → Request
request_of size line =
    if nat_lt (longest_line size) (length line) then Bad
    else request_of_fields size (slice_split is_space line)

-- the fields after a field, where a space follows it
abbrev pub fields_after : Option (List ℕ) → List (List ℕ)
fields_after None = []
fields_after (Some rest) = slice_split is_space rest

-- a line that was read, with the buffer beside it
abbrev pub request_with : Line → List ℕ → Request
request_with (line.Write time block) fresh = Write time block fresh
request_with (line.Read block) fresh = Read block
request_with (line.At seq block) fresh = At seq block
request_with (line.By time block) fresh = By time block
request_with line.Info fresh = Info
request_with (line.Keep seq) fresh = Keep seq
request_with line.Quit fresh = Quit
request_with line.Bad fresh = Bad

-- the buffer is as it was, unless the line is a write, which fills it, or has no form
abbrev pub LeavesBuffer : Line → List ℕ → List ℕ → Type 0
LeavesBuffer (line.Write time block) old new = ⊤
LeavesBuffer (line.Read block) old new = new ≡ old
LeavesBuffer (line.At seq block) old new = new ≡ old
LeavesBuffer (line.By time block) old new = new ≡ old
LeavesBuffer line.Info old new = new ≡ old
LeavesBuffer (line.Keep seq) old new = new ≡ old
LeavesBuffer line.Quit old new = new ≡ old
LeavesBuffer line.Bad old new = ⊤

-- no line feed stands among the bytes
abbrev pub HasNoFeed : List ℕ → Type 0
HasNoFeed line = All (λ byte. is_line_feed byte ≡ false) line

-- how many line feeds stand among the bytes: that many whole lines
abbrev pub line_feeds : List ℕ → ℕ
line_feeds bytes = count_by is_line_feed bytes

-- the parts between line feeds, without an empty last one
abbrev pub without_empty_last : List (List ℕ) → List (List ℕ)
without_empty_last [] = []
without_empty_last (part ∷ []) = if length part == 0 then [] else part ∷ []
without_empty_last (part ∷ next ∷ parts) = part ∷ without_empty_last (next ∷ parts)

-- the lines of an input; a last one without a line feed counts if it isn't empty
abbrev pub lines_of : List ℕ → List (List ℕ)
lines_of input = without_empty_last (slice_split is_line_feed input)

-- every request but `Q`
abbrev pub goes_on : Request → Bool
goes_on Quit = false
goes_on (Write time block bytes) = true
goes_on (Read block) = true
goes_on (At seq block) = true
goes_on (By time block) = true
goes_on Info = true
goes_on (Keep seq) = true
goes_on Bad = true

-- the requests of an input up to the first `Q` or the end
abbrev pub lines : ℕ → List ℕ → List Request
lines size input = take_while goes_on (map (request_of size) (lines_of input))
