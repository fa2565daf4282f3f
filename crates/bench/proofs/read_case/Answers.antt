-- `bench::read_case` meets its contract: each read stands behind what was taken before it, and is what the reader had next. Assumes nothing.
use Rattle.std.proofs.Common.{◌≡◌, ℕ, ◌+◌, ◌-◌, ◌≤◌, List, ◌++◌, rules, length, take, sym, ap, ◌∙◌, subst, length-take-le}
use Rattle.std.proofs.Math.Seq.{take-append-add, take-append-le}
use Rattle.std.specs.Io.KnownBytes.{Consumes}
use Rattle.std.proofs.KnownBytes.{Consumes-trans}
use borrow.Rule.Slice.PartMut.{put_mid, post_of}
use Rattle.bench.proofs.read_case.Goals as goal

-- the room once n bytes of ys are read into it from a on
taken_more : (a k n : ℕ) (xs ys : List ℕ) → a ≤ length xs → n ≤ length ys → take (a + n) (put_mid a k xs ys) ≡ take a xs ++ take n ys
taken_more a k n xs ys within fits =
    let front : length (take a xs) ≡ a = length-take-le a xs within in
    ap (λ m. take (m + n) (put_mid a k xs ys)) (sym front)
    ∙ take-append-add (take a xs) (ys ++ post_of a k xs) n
    ∙ ap (λ l. take a xs ++ l) (take-append-le n ys (post_of a k xs) fits)

pub loop-taken-preserved : goal.loop-taken-preserved
loop-taken-preserved g c =
    let a = c.loop-taken.taken in
    let room = c.loop-taken.room in
    let more = taken_more a (length room - a) c.in_ok-more.more room c.read.new.buf c.loop-taken.invariant.fits c.in_ok-more.ensures.bound.0 in
    record {
      fits = search rules;
      same = search rules;
      consumed = subst (Consumes _ _) (sym more)
          (Consumes-trans _ _ _ _ _ c.loop-taken.invariant.consumed c.in_ok-more.ensures.bytes.0);
    }
