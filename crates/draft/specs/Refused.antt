-- A refusal as the programs that run vectors print it.
use Rattle.std.specs.Prelude.{ℕ, List, ◌++◌, codes, decimal}
use Rattle.reply.specs.declared.Refusal.{Refusal}

-- its number and its place in decimal, each after a space
abbrev pub refused_text : Refusal → List ℕ
refused_text r = codes "refused " ++ decimal r.number ++ codes " " ++ decimal r.first ++ codes " " ++ decimal r.second
