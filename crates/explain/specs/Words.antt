-- A refusal in words: the table's words for its number, and its place.
use Rattle.std.specs.Prelude.{ℕ, cond, ◌||◌, List, [], ◌∷◌, ◌++◌, ◌==◌, if◌then◌else◌, ltb, codes}
use Rattle.reply.specs.declared.Refusal.{Refusal}
use Rattle.text.specs.Text.{spaced}

-- why a call is refused under number n
abbrev pub reason : ℕ → List ℕ
reason n =
    if n == 1 then codes "the length is below 28 or above 2,124" else (
    if n == 2 then codes "the last four bytes are not SFS1" else (
    if n == 3 then codes "the machine count is 0 or above 8" else (
    if n == 4 then codes "the entries and the trailer exceed the length, or the trailer's offset is wrong" else (
    if n == 5 then codes "an entry has its states, initial state, actions or zero byte out of range" else (
    if n == 6 then
    codes "an entry's offset is wrong or, if there is no such machine, the actions do not end at the entries" else (
    if n == 7 then codes "an action has a state, period or time out of range, or deadline 0" else (
    if n == 8 then codes "a deadline is above the divisor of the machine's periods" else (
    if n == 9 then codes "the hyperperiod H is above 1,024" else (
    if n == 10 then codes "the machine asked for is not in the sheet" else (
    if n == 11 then codes "the window runs backwards, is longer than 2,048 or ends after 1,000,000" else (
    if n == 12 then codes "the lent output is too short" else (
    if n == 14 then codes "the window holds more than 6 instants, for the plain reckoner" else []))))))))))))

-- where: 5 and 6 have a machine, 7 and 8 a machine and its action
unfoldable pub place : Refusal → List ℕ
place r =
    cond (ltb r.number 5 || ltb 8 r.number) []
    (codes ", at machine" ++ spaced (r.first ∷ [])
    ++ cond (ltb r.number 7) [] (codes ", action" ++ spaced (r.second ∷ [])))

-- what is said of a refusal, up to the end of its line
abbrev pub refused_words : Refusal → List ℕ
refused_words r =
    codes ": refused under" ++ spaced (r.number ∷ []) ++ codes ": " ++ reason r.number ++ place r ++ (10 ∷ [])

-- the line of a program that was refused
abbrev pub explanation : List ℕ → Refusal → List ℕ
explanation program r = program ++ refused_words r
