-- The whole tree: its head, its externals' names, its one expression, and nothing after it. Assumes nothing.
use Prim.Native.Nat.{ℕ, ◌+◌, ◌*◌, ◌≤◌, ◌<◌}
use mathlib.Core.List.{List}
use mathlib.Core.Path.{◌≡◌, refl, sym, ap, ◌∙◌}
use lib.ListN.{length}
use lib.Dec.{eqb, leb}
use borrow.Author.Tests.{le-leb, lt-leb, eq-eqb, ne_eqb}
use Rattle.rules.specs.Outcome.{Outcome, ok, refuse, need, ◌>>=◌}
use Rattle.rules.specs.Numbers.{JT, code, number_at, numbers_at}
use Rattle.rules.specs.Records.{numbers_of, widths, width, fields}
use Rattle.rules.specs.Tree.{Tree}
use Rattle.rules.specs.FirstWalk.{any_expression, only, nth, expr_at, tree_at}
use Rattle.refusal.specs.declared.Refusal.{Refusal}
use Rattle.std.specs.Prelude.{Result, Ok, Err}
use Rattle.tree.specs.Seen.{seen, ended}
use Rattle.bytes_skip.specs.Places.{past, expected_at}
use Rattle.tree.proofs.Binding.{went, stopped}
use Rattle.tree.proofs.Definition.{got, only_row, record_expected}

ended_read : {A : Type 0} (size : ℕ) (x : Outcome ℕ) (r : ℕ → A) (k : A → Outcome Tree) (g : ℕ → Outcome ℕ) → ((q : ℕ) → ended size (k (r q)) ≡ g q)
    → ended size ((x >>= λ q. ok (r q)) >>= k) ≡ (x >>= g)
unfolding ended ◌>>=◌
ended_read size (ok q) r k g h = h q
ended_read size (refuse number place) r k g h = refl

ended_bind : {A : Type 0} (size : ℕ) (x : Outcome A) (k : A → Outcome Tree) (g : A → Outcome ℕ) → ((a : A) → ended size (k a) ≡ g a) → ended size (x >>= k) ≡ (x >>= g)
unfolding ended ◌>>=◌
ended_bind size (ok a) k g h = h a
ended_bind size (refuse number place) k g h = refl

ended_past : {A : Type 0} (size : ℕ) (x : Outcome (A × ℕ)) (k : A × ℕ → Outcome Tree) (g : ℕ → Outcome ℕ) → ((a : A × ℕ) → ended size (k a) ≡ g a.1)
    → ended size (x >>= k) ≡ (past x >>= g)
unfolding ended past ◌>>=◌
ended_past size (ok a) k g h = h a
ended_past size (refuse number place) k g h = refl

module _ (s : List ℕ) where
  -- "bytes follow the expression" (5)
  abbrev end_past : ℕ → Outcome ℕ
  end_past q = need (eqb q (length s)) 5 q >>= λ _. ok (length s)

  abbrev root_past : ℕ → Outcome ℕ
  root_past p = past (expr_at s 200 any_expression p) >>= end_past

  abbrev names_past : ℕ → Outcome ℕ
  names_past p = need (leb (p + 4 * number_at s 2) (length s)) 1 0 >>= λ _. root_past (p + 4 * number_at s 2)

  abbrev head_past : ℕ → Outcome ℕ
  head_past p = need (leb (number_at s 2) 65535) 11 0 >>= λ _. names_past p

  tree_past : ended (length s) (tree_at s) ≡ (expected_at s (code JT) 0 >>= head_past)
  unfolding tree_at nth numbers_of widths width fields numbers_at ended
  tree_past =
      rw (record_expected s (only JT) 0 JT tt (only_row JT _))
      (ended_read (length s) (expected_at s (code JT) 0) (got s JT tt 0) _ head_past (λ p.
      ended_bind (length s) (need (leb (number_at s 2) 65535) 11 0) _ (λ _. names_past p) (λ _.
      ended_bind (length s) (need (leb (p + 4 * number_at s 2) (length s)) 1 0) _ (λ _. root_past (p + 4 * number_at s 2)) (λ _.
      ended_past (length s) (expr_at s 200 any_expression (p + 4 * number_at s 2)) _ end_past (λ a.
      ended_bind (length s) (need (eqb a.1 (length s)) 5 a.1) _ (λ _. ok (length s)) (λ _. refl))))))

  module _ {w : Result ℕ Refusal} (h : seen w ≡ expected_at s 0x4a54 0) where
    pub tree_refused : {why : Refusal} → w ≡ Err why → seen w ≡ ended (length s) (tree_at s)
    unfolding code
    tree_refused e = stopped h head_past e ∙ sym tree_past

    module _ {p : ℕ} (e : w ≡ Ok p) where
      tree_went : head_past p ≡ ended (length s) (tree_at s)
      unfolding code
      tree_went = went h head_past e ∙ sym tree_past

      module _ {n : ℕ} (en : n ≡ number_at s 2) where
        pub many_names : 65535 < n → refuse 11 0 ≡ ended (length s) (tree_at s)
        unfolding need ◌>>=◌
        many_names lt = let over : 65535 < number_at s 2 = (rw en at lt) in rw (lt-leb _ _ over) at tree_went

        module _ (few : n ≤ 65535) {m : ℕ} (em : m ≡ n) where
          names_went : names_past p ≡ ended (length s) (tree_at s)
          unfolding need ◌>>=◌
          names_went = let fit : number_at s 2 ≤ 65535 = (rw en at few) in rw (le-leb _ _ fit) at tree_went

          root_is : p + 4 * m ≡ p + 4 * number_at s 2
          root_is = ap (λ (k : ℕ). p + 4 * k) (em ∙ en)

          pub names_missing : length s < p + 4 * m → refuse 1 0 ≡ ended (length s) (tree_at s)
          unfolding need ◌>>=◌
          names_missing lt = let short : length s < p + 4 * number_at s 2 = (rw root_is at lt) in rw (lt-leb _ _ short) at names_went

          module _ (room : p + 4 * m ≤ length s) where
            root_went : root_past (p + 4 * m) ≡ ended (length s) (tree_at s)
            unfolding need ◌>>=◌
            root_went = let fit : p + 4 * number_at s 2 ≤ length s = (rw root_is at room) in rw root_is (rw (le-leb _ _ fit) at names_went)

            module _ {x : Result ℕ Refusal} (k : seen x ≡ past (expr_at s 200 any_expression (p + 4 * m))) where
              pub root_refused : {why : Refusal} → x ≡ Err why → seen x ≡ ended (length s) (tree_at s)
              root_refused d = stopped k end_past d ∙ root_went

              module _ {q : ℕ} (d : x ≡ Ok q) where
                end_went : end_past q ≡ ended (length s) (tree_at s)
                end_went = went k end_past d ∙ root_went

                pub bytes_follow : (q ≡ length s → ⊥) → refuse 5 q ≡ ended (length s) (tree_at s)
                unfolding need ◌>>=◌
                bytes_follow ne = rw (ne_eqb q (length s) ne) at end_went

                pub all_read : q ≡ length s → ok q ≡ ended (length s) (tree_at s)
                unfolding need ◌>>=◌
                all_read e = ap ok e ∙ (rw (eq-eqb q (length s) e) at end_went)
