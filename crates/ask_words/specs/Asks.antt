-- The program `ask`: what its words ask.
use Rattle.std.specs.Prelude.{ℕ, List, Option, None, Some, codes, ◌==◌, if◌then◌else◌}
use Rattle.std.specs.Str.{bytes_eq}
use Rattle.reply.specs.declared.Kind.{Kind}
use Rattle.reply.specs.declared.Kind.TheVariants.{Request, Demand, Table, Critical, Plain}
use Rattle.reply.specs.declared.Question.{Question}
use Rattle.text.specs.Text.{read_number}

-- the question that a word names
abbrev pub kind_of : List ℕ → Option Kind
kind_of word =
    if bytes_eq word (codes "request") then Some Request else (
    if bytes_eq word (codes "demand") then Some Demand else (
    if bytes_eq word (codes "table") then Some Table else (
    if bytes_eq word (codes "critical") then Some Critical else (
    if bytes_eq word (codes "plain") then Some Plain else None))))

-- a name and three numbers ask, and nothing else does
abbrev pub asks_of : Option Kind → Option ℕ → Option ℕ → Option ℕ → Option Question
asks_of None i s f = None
asks_of (Some kind) None s f = None
asks_of (Some kind) (Some i) None f = None
asks_of (Some kind) (Some i) (Some s) None = None
asks_of (Some kind) (Some i) (Some s) (Some f) = Some (record { kind = kind; machine = i; from = s; to = f })

-- what so many words ask, the program's own and these four
abbrev pub asks : ℕ → List ℕ → List ℕ → List ℕ → List ℕ → Option Question
asks words name machine from to =
    if words == 5 then asks_of (kind_of name) (read_number machine) (read_number from) (read_number to) else None
