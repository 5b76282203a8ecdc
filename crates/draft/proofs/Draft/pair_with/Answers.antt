use Rattle.std.proofs.Common.{◌≡◌, ◌∙◌, ◌%◌, ap, ℕ, List}
use Rattle.draft.specs.Draft.{◌followed_by_fields◌, action, entry, trailer}
use Rattle.draft.proofs.Draft.pair_with.Goals as goal

-- fields behind a draft whose bytes are known
behind :
    (fields : List (List ℕ)) {known before after : List ℕ} →
    after ≡ before followed_by_fields fields → before ≡ known → after ≡ known followed_by_fields fields
behind fields puts is = puts ∙ ap (λ bytes. bytes followed_by_fields fields) is

pub returns : goal.returns
returns c =
    behind (trailer 40 2) c.trailer.ensures
    (behind (entry 3 0 4 8) c.entry-2.ensures
    (behind (entry 1 0 1 0) c.entry.ensures
    (behind (action 1 2 100 3 20) c.action-4.ensures
    (behind (action 1 2 40 2 20) c.action-3.ensures
    (behind (action 2 0 100 6 20) c.action-2.ensures
    (behind (action 0 1 40 5 (c.args.deadline % 65536)) c.action.ensures
    (behind (action 0 0 40 (c.args.time % 65536) 40) c.stay.ensures c.new.ensures.none)))))))
