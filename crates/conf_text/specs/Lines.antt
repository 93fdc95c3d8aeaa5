-- What the lines of a text are, and what is wrong with one.
use Rattle.std.specs.Prelude.{◌≡◌, ◌⊎◌, ℕ, Bool, not, ◌+◌, ◌<◌, ◌≤◌, ◌||◌, ◌&&◌, ◌==◌, nat_le, nat_lt, List, [], length, Result, Ok, Err, if◌then◌else◌}
use Rattle.std.specs.List.{list_all, list_any}
use Rattle.list_core.specs.Each.{each, IsRead, IsFirstFault}
use Rattle.text_core.specs.Parts.{parts, before, is_line_feed}
use Rattle.conf_text.specs.Parts.{is_hash, is_blank, without_return, words_in}
use Rattle.conf_text.specs.declared.line.TheConstants.{MOST_BYTES, MOST_BYTES_OF_LINE, MOST_LINES, MOST_WORDS}
use Rattle.conf_text.specs.declared.line.Line.{Line}
use Rattle.conf_text.specs.declared.line.LineFault.{LineFault}
use Rattle.conf_text.specs.declared.line.LineKind.{LineKind}
use Rattle.conf_text.specs.declared.line.LineKind.TheVariants.{TooLong, TooManyWords, TooManyLines, Quoting, NotAscii, NoMemory}

-- a quotation mark, an apostrophe or a backslash
abbrev pub is_quoting : ℕ → Bool
is_quoting b = b == 0x22 || b == 0x27 || b == 0x5C

-- a blank or a visible character of ASCII
abbrev pub is_plain : ℕ → Bool
is_plain b = is_blank b || (nat_le 0x21 b && nat_le b 0x7E)

-- a line may have the byte
abbrev pub is_allowed : ℕ → Bool
is_allowed b = is_plain b && not (is_quoting b)

-- what is wrong with the characters of a line
abbrev pub check_bytes : List ℕ → Result (Unit {0}) LineKind
check_bytes code =
    if list_any is_quoting code then Err Quoting
    else if not (list_all is_plain code) then Err NotAscii
    else Ok tt

-- the line without its comment
abbrev pub code_in : List ℕ → List ℕ
code_in line = before is_hash line

abbrev pub judged_code : ℕ → List ℕ → Result Line LineKind
judged_code number code =
    if nat_lt MOST_WORDS (length (words_in code)) then Err TooManyWords
    else if nat_lt MOST_LINES number then Err TooManyLines
    else if list_any is_quoting code then Err Quoting
    else if not (list_all is_plain code) then Err NotAscii
    else Ok (record { number = number; words = words_in code })

-- a line by its own characters: the first kind of fault in it, or its words
abbrev pub judged_line : ℕ → List ℕ → Result Line LineKind
judged_line number line = if nat_lt MOST_BYTES_OF_LINE (length line) then Err TooLong else judged_code number (code_in line)

abbrev pub at_line : ℕ → Result Line LineKind → Result Line LineFault
at_line number (Ok line) = Ok line
at_line number (Err kind) = Err (record { line = number; kind = kind })

-- the line after those
abbrev pub next_line : List Line → List ℕ → Result Line LineFault
next_line lines line = at_line (length lines + 1) (judged_line (length lines + 1) (without_return line))

-- the text is longer than any that is read
abbrev pub text_too_long : LineFault
text_too_long = record { line = 0; kind = TooLong }

abbrev pub no_memory : LineFault
no_memory = record { line = 0; kind = NoMemory }

-- the lines of a text, or its fault
abbrev pub lines_of : List ℕ → Result (List Line) LineFault
lines_of text = if nat_lt MOST_BYTES (length text) then Err text_too_long else each next_line [] (parts is_line_feed text)

-- each line is what its part of the text says
abbrev pub AreLines : List ℕ → List Line → Type 0
AreLines text lines = (length text ≤ MOST_BYTES) × IsRead next_line (parts is_line_feed text) lines

-- the text is too long, or it is the fault of its first line that has one
abbrev pub IsTextFault : List ℕ → LineFault → Type 0
IsTextFault text fault =
    ((MOST_BYTES < length text) × (fault ≡ text_too_long)) ⊎ ((length text ≤ MOST_BYTES) × IsFirstFault next_line (parts is_line_feed text) fault)
