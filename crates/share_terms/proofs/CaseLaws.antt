-- The laws of the four cases: what a case gives is the scope's term, over any L of which that is a whole number, and so over any L that d(d+1) divides.
-- That x is p/q of L is said without a division: x times q is p times L.
use Rattle.std.specs.Prelude.{◌≡◌, ℕ, ◌+◌, ◌-◌, ◌*◌, ◌≤◌, ◌<◌, ltb, eqb}
use Rattle.std.proofs.Common.{sym, ◌∙◌, one-mul, mul-pos, arith, ltb-true, ltb-false, eqb-true, le-leb}
use Rattle.std.proofs.Math.Nat.{div-eq_of_eq-mul_left}
use Rattle.std.proofs.lemmas.Bool.{eqb-false, lt-leb}
use Rattle.lists.proofs.Tests.{split}
use Rattle.game.specs.Game.{neighbour_term}
use Rattle.game.proofs.Terms.{neighbour-one}
use Rattle.share_terms.specs.TermCases.{term_case, InCase}

-- the cases cover everything: any need, which is at least 1, at any degree
pub cases_cover : {k d c : ℕ} → 1 ≤ k → c ≡ term_case k d → InCase k d c
unfolding term_case
cases_cover {k} {d} p e =
    rw e (split (ltb d k)
    (λ a. rw a (omega (arith, ltb-true d k a)))
    (λ a. rw a (split (eqb k d)
    (λ q. rw q (omega (arith, eqb-true k d q)))
    (λ q. rw q (split (eqb k 1)
    (λ o. rw o (omega (arith, ltb-false d k a, eqb-false k d q, eqb-true k 1 o)))
    (λ o. rw o (omega (arith, ltb-false d k a, eqb-false k d q, eqb-false k 1 o))))))))

module _ (k d L : ℕ) where
  -- 0
  pub need_above_degree_lem : d < k → 0 ≡ neighbour_term k d L
  unfolding neighbour_term
  need_above_degree_lem l = rw (lt-leb k d l)

  module _ {x : ℕ} where
    -- the scope's fraction, for any need that can be met
    met : 1 ≤ k → k ≤ d → x * (d * (d + 1)) ≡ (d + 1 - k) * L → x ≡ neighbour_term k d L
    unfolding neighbour_term
    met p l e = rw (le-leb k d l) (sym (div-eq_of_eq-mul_left (mul-pos (omega arith) (omega arith)) (sym e)))

    -- 1/(d(d+1))
    pub need_equal_to_degree : 1 ≤ k → k ≡ d → x * (d * (d + 1)) ≡ L → x ≡ neighbour_term k d L
    need_equal_to_degree p q e = let one : d + 1 - k ≡ 1 = omega arith in met p (omega arith) (rw one (e ∙ sym (one-mul L)))

    -- 1/(d+1)
    pub need-one : 1 ≤ d → k ≡ 1 → x * (d + 1) ≡ L → x ≡ neighbour_term k d L
    need-one p q e = rw q (sym (neighbour-one d L p ∙ div-eq_of_eq-mul_left (omega arith) (sym e)))

    -- (d+1-k)/(d(d+1))
    pub need_between : 1 < k → k < d → x * (d * (d + 1)) ≡ (d + 1 - k) * L → x ≡ neighbour_term k d L
    need_between p l = met (omega arith) (omega arith)
