-- One turn of the pass, at the last of the entries that are left.
use Rattle.std.proofs.Common.{ℕ, ◌+◌, ◌-◌, ◌<◌, ◌≡◌, Bool, List, [], ◌∷◌, ◌++◌, refl, sym, ap, ◌∙◌, subst, arith, length, drop}
use Rattle.std.specs.Prelude.{◌||◌, ◌&&◌}
use Rattle.std.proofs.lemmas.List.{append-nil, append_assoc, get_or_at, get_or-drop, length_push, length-append, length-drop, take_all}
use Rattle.rule.proofs.Passes.{pass}
use Rattle.scratch.proofs.Bits.{one_is, pass_down}
use Rattle.scratch.proofs.Scratch.{at}
use Rattle.judge.proofs.truths.Judging.loop_seed.Goals as goal

-- the last entry that is left, and where it stands
module _ (entries left passed : List ℕ) (last k : ℕ) (all : (left ++ (last ∷ [])) ++ passed ≡ drop k entries) where
  last_at : at entries (k + length left) ≡ last
  last_at =
      sym (get_or-drop k entries (length left) 0)
      ∙ ap (λ (l : List ℕ). at l (length left)) (sym all ∙ append_assoc left (last ∷ []) passed)
      ∙ get_or_at left last passed 0 (length left) refl

  last_within : k + length left < length entries
  last_within =
      omega (arith, ap length all, length-append (left ++ (last ∷ [])) passed, length_push left last, length-drop k entries)

module _ (now stay : ℕ → Bool) (s : Bool) (c i : ℕ) where
  -- before the first turn, and one turn down to i
  unturned : {next : Bool} → next ≡ s → c - i ≡ 0 → next ≡ pass now stay s i (c - i)
  unfolding pass
  unturned e none = rw none e

  turn : (j : ℕ) {next turned : Bool} → j ≡ i + 1 → next ≡ pass now stay s j (c - j) → turned ≡ (now i || (stay i && next)) → i < c
      → turned ≡ pass now stay s i (c - i)
  turn j {next} {turned} above e f h =
      let here : j - 1 ≡ i = omega arith in
      subst (λ (x : ℕ). turned ≡ pass now stay s x (c - x)) here
      (pass_down now stay s c j e (subst (λ (x : ℕ). turned ≡ (now x || (stay x && next))) (sym here) f) (omega arith) (omega arith))

pub loop-entry-init : goal.loop-entry-init
loop-entry-init c =
    let k = c.args.self.now.run.k in
    let size = length-drop k c.args.entries.now in
    let left : c.into_iter-entry-iterator.result.iter.rest.now ≡ drop k c.args.entries.now =
    rw (c.into_iter-entry-iterator.ensures.into_iter_gives, c.rev-entry-items.ensures.source, c.iter.ensures.rest)
    (take_all _ _ (omega (arith, size))) in
    record {
      before = ([], append-nil _ ∙ left);
      next = unturned _ _ _ _ _ (one_is c.pole_word-next.ensures) (omega (arith, ap length left, size));
    }

pub loop-entry-preserved : goal.loop-entry-preserved
loop-entry-preserved c =
    let k = c.args.self.now.run.k in
    let left = c.next.new.self.iter.rest.now in
    let last = c.in-Some.entry.now in
    let steps = c.in-Some.ensures.steps in
    let before = c.loop-entry.invariant.before in
    let all : (left ++ (last ∷ [])) ++ before.0 ≡ drop k c.args.entries.now = ap (λ (l : List ℕ). l ++ before.0) (sym steps) ∙ before.1 in
    let here = last_at c.args.entries.now left before.0 last k all in
    record {
      before = (last ∷ before.0, sym (append_assoc left (last ∷ []) before.0) ∙ all);
      next =
          turn _ _ _ _ (k + length left) _ (omega (arith, ap length steps, length_push left last)) c.loop-entry.invariant.next
          (rw (sym here) at c.carried-next.ensures) (last_within c.args.entries.now left before.0 last k all);
    }
