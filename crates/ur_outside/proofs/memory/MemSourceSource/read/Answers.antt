use Rattle.std.proofs.Common.{arith, ◌≡◌, ◌≤◌, ◌<◌, [], drop, take, ℕ, ◌+◌, ◌-◌, min, length, List, ◌++◌, sym, ap, ◌∙◌}
use Rattle.std.proofs.lemmas.List.{take-append-drop, drop-drop, take_at, take_all}
use Rattle.std.proofs.Math.ListN.{drop_of_length-le}
use Rattle.std.proofs.lemmas.Grind.{common_steps}
use Rattle.ur_outside.proofs.memory.MemSourceSource.read.Goals as goal

-- what was copied is the front of the rest
front : (xs copied more : List ℕ) (at n : ℕ) → n ≤ length (drop at xs)
    → copied ≡ take n (drop at xs) → drop at xs ≡ take n (copied ++ more) ++ drop (at + n) xs
front xs copied more at n le same =
    let long : length copied ≡ n = grind (arith, common_steps, same) in
    let kept : take n (copied ++ more) ≡ copied = take_at copied more n long in
    rw (kept, same, ← drop-drop n at xs) (sym (take-append-drop n (drop at xs)))

-- nothing is left where nothing could be given into a piece with room
end : (xs : List ℕ) (at n room : ℕ) → n ≡ min (length (drop at xs)) room → n ≡ 0 → 0 < room → drop (at + n) xs ≡ []
end xs at n room is none some =
    let over : length xs ≤ at + n = grind (arith, common_steps, is, none, some) in
    drop_of_length-le xs over

-- a piece that was not empty gives room
room_of : (copied into : List ℕ) (n room most : ℕ) → 0 < most → room ≡ min (length into) most
    → length copied ≡ n → n ≤ length into → 0 < length (copied ++ drop n into) → 0 < room
room_of copied into n room most moves is long le some =
    grind (arith, common_steps, moves, is, long, le, some)

pub returns-clause-bytes : goal.returns-clause-bytes
returns-clause-bytes c =
    let xs = c.args.self.now.bytes.items in
    let at = c.args.self.now.at in
    let n = c.min-count.result in
    let room = c.min-room.result in
    let copied = c.copy_from_slice.new.self in
    let into = c.args.into.now in
    let value : c.deref-2.result.now ≡ xs = c.deref-2.ensures.value in
    let rest : take (length c.deref-2.result.now - at) (drop at c.deref-2.result.now) ≡ drop at xs = rw value (take_all _ _ (grind (arith, common_steps))) in
    let same : copied ≡ take n (drop at xs) = c.copy_from_slice.ensures.after ∙ ap (take n) rest in
    let least : n ≡ min (length (drop at xs)) room = c.min-count.ensures ∙ ap (λ (l : List ℕ). min (length l) room) rest in
    (front xs copied (drop n into) at n (omega (arith, least)) same, λ none some. end xs at n room least none (room_of copied into n room c.args.self.now.most c.args.self.now.moves c.min-room.ensures (rw same (grind (arith, common_steps, least))) (omega (arith, least, c.min-room.ensures)) some))
