-- The walkers' answers as laws, with no code in them: each answer of the cycle's proof is one of these, applied. Assumes nothing.
use Prim.Native.Nat.{ℕ, suc, ◌+◌, ◌*◌, ◌-◌, ◌≤◌, ◌<◌}
use mathlib.Core.Bool.{Bool, true, false}
use mathlib.Core.List.{List, [], ◌∷◌}
use mathlib.Core.Logic.{◌⊎◌, inl, inr}
use mathlib.Core.Option.{none, some}
use mathlib.Core.Path.{◌≡◌, refl, sym, ap, subst, ◌∙◌}
use native.Mathlib.Omega.{arith}
use lib.ListN.{length, take, drop}
use lib.Dec.{eqb}
use borrow.Author.Tests.{eqb-true}
use Rattle.rules.specs.Outcome.{Outcome, ok, refuse, choose, ◌>>=◌}
use Rattle.rules.specs.Numbers.{Mark, code, code_at, number_at, numbers_at, is_set}
use Rattle.rules.specs.Records.{numbers_of}
use Rattle.rules.specs.FirstWalk.{Form, any_expression, rows, row_of, constants_at, expr_at}
use Rattle.rules.proofs.After.{chosen}
use Rattle.rules.proofs.Outcomes.{Both, bind_got}
use Rattle.rules.proofs.Flags.{set_of}
use Rattle.refusal.specs.declared.Refusal.{Refusal}
use Rattle.std.specs.Prelude.{Result, Ok, Err}
use Rattle.tree.specs.Seen.{seen}
use Rattle.bytes_skip.specs.Places.{past, over, expected_at, expr_past, exprs_past, below_past, held_past}
use Rattle.bytes_records.specs.Marks.{mark_of, children}
use Rattle.bytes_records.specs.Constants.{is_some}
use Rattle.tree.specs.Places.{Ends, lone, opened_at, bind_past, value_past, values_past, plain_past, array_past, extended_past, local_past, call_past, index_past, function_past, object_past}
use Rattle.bytes_skip.specs.Behind.{Behind}
use Rattle.bytes_records.proofs.Laws.{All, ◌also◌, numbers_part}
use Rattle.tree.proofs.Binding.{past_seen, refused_seen, went, stopped}
use Rattle.bytes_skip.proofs.Heads.{head_fits}
use Rattle.tree.proofs.Definition.{expr_other, expr_identity, expr_constant, expr_variable, expr_unary, expr_binary, expr_assert, expr_error, expr_import, expr_if, expr_slice, bind_function, bind_value}

-- what is known by a mark's number in hand is known by the number itself
pub by_mark : (f : ℕ → Outcome ℕ) {x y : Outcome ℕ} {mark m : ℕ} → x ≡ f mark → mark ≡ m → f m ≡ y → x ≡ y
by_mark f h e k = h ∙ ap f e ∙ k

-- n times, with another name for n
counted : (f : ℕ → Outcome ℕ) (q : ℕ) {x : Outcome ℕ} {n m : ℕ} → x ≡ over n f q → n ≡ m → x ≡ over m f q
counted f q h e = h ∙ ap (λ (n : ℕ). over n f q) e

row_missing : {A : Type 0} (c : ℕ) (table : List (Mark × A)) → All (λ r. c ≡ code r.0 → ⊥) table → row_of c table ≡ none
unfolding row_of
row_missing c [] all = refl
row_missing c (r ∷ rs) (here also later) =
    chosen (λ o. o ≡ none) (eqb c (code r.0)) (λ _. some r) (λ _. row_of c rs) (λ e. absurd (here (eqb-true _ _ e))) (λ _. row_missing c rs later)

module _ (s : List ℕ) (nest at : ℕ) where
  -- a mark that no expression has
  pub expr_unknown : {mark : ℕ} → at + 2 ≤ length s → mark ≡ code_at s at → unfold rows in All (λ (r : Mark × Form). mark ≡ code r.0 → ⊥) (rows any_expression)
      → refuse 2 at ≡ past (expr_at s nest any_expression at)
  unfolding rows
  expr_unknown room e all = expr_other s nest at room any_expression (rw (← e) (row_missing _ (rows any_expression) all))

  module _ (room : at + 2 ≤ length s) {mark : ℕ} (k : mark ≡ code_at s at) {x : Outcome ℕ} where
    -- `ID`, `IM`, `TV` and `VA` have nothing below them
    pub leaf_here : (mark ≡ 0x4944) ⊎ (mark ≡ 0x494d) ⊎ (mark ≡ 0x5456) ⊎ (mark ≡ 0x5641) → x ≡ opened_at s nest mark at → x ≡ past (expr_at s nest any_expression at)
    leaf_here (inl e) h = by_mark (λ m. opened_at s nest m at) h e (expr_identity s nest at room (sym k ∙ e))
    leaf_here (inr (inl e)) h = by_mark (λ m. opened_at s nest m at) h e (expr_import s nest at room (sym k ∙ e))
    leaf_here (inr (inr (inl e))) h = by_mark (λ m. opened_at s nest m at) h e (expr_constant s nest at room (sym k ∙ e))
    leaf_here (inr (inr (inr e))) h = by_mark (λ m. opened_at s nest m at) h e (expr_variable s nest at room (sym k ∙ e))

    -- `AS`, `BI`, `ER`, `IF`, `SC` and `UN` have expressions below them and nothing else
    pub plain_here : (mark ≡ 0x4153) ⊎ (mark ≡ 0x4249) ⊎ (mark ≡ 0x4552) ⊎ (mark ≡ 0x4946) ⊎ (mark ≡ 0x5343) ⊎ (mark ≡ 0x554e) → x ≡ plain_past s nest mark at
        → x ≡ past (expr_at s nest any_expression at)
    plain_here (inl e) h = by_mark (λ m. plain_past s nest m at) h e (expr_assert s nest at room (sym k ∙ e))
    plain_here (inr (inl e)) h = by_mark (λ m. plain_past s nest m at) h e (expr_binary s nest at room (sym k ∙ e))
    plain_here (inr (inr (inl e))) h = by_mark (λ m. plain_past s nest m at) h e (expr_error s nest at room (sym k ∙ e))
    plain_here (inr (inr (inr (inl e)))) h = by_mark (λ m. plain_past s nest m at) h e (expr_if s nest at room (sym k ∙ e))
    plain_here (inr (inr (inr (inr (inl e))))) h = by_mark (λ m. plain_past s nest m at) h e (expr_slice s nest at room (sym k ∙ e))
    plain_here (inr (inr (inr (inr (inr e))))) h = by_mark (λ m. plain_past s nest m at) h e (expr_unary s nest at room (sym k ∙ e))

  -- the numbers of a record, as the code counts what stands below it
  children_here : (mark : ℕ) {n : ℕ} → n ≡ children (mark_of mark) (numbers_at (take (length s - at) (drop at s)) (numbers_of (mark_of mark)) 2)
      → n ≡ children (mark_of mark) (numbers_at s (numbers_of (mark_of mark)) (at + 2))
  children_here mark e = e ∙ ap (children (mark_of mark)) (numbers_part s at (numbers_of (mark_of mark)) 2)

  module _ {w : Result ℕ Refusal} (mark : ℕ) where
    pub plain_refused : {why : Refusal} → seen w ≡ opened_at s nest mark at → w ≡ Err why → seen w ≡ plain_past s nest mark at
    unfolding plain_past
    plain_refused h e = stopped h (below_past s (nest - 1) mark at) e

    pub plain_went : {q n : ℕ} {x : Outcome ℕ} → seen w ≡ opened_at s nest mark at → w ≡ Ok q
        → n ≡ children (mark_of mark) (numbers_at (take (length s - at) (drop at s)) (numbers_of (mark_of mark)) 2)
        → x ≡ exprs_past s (nest - 1) n q → x ≡ plain_past s nest mark at
    unfolding plain_past below_past
    plain_went {q} h e en k = k ∙ ap (λ (n : ℕ). exprs_past s (nest - 1) n q) (children_here mark en) ∙ went h (below_past s (nest - 1) mark at) e

    pub held_refused : {why : Refusal} → seen w ≡ expected_at s mark at → w ≡ Err why → seen w ≡ held_past s nest mark at
    unfolding held_past
    held_refused h e = stopped h (below_past s nest mark at) e

    pub held_went : {q n : ℕ} {x : Outcome ℕ} → seen w ≡ expected_at s mark at → w ≡ Ok q
        → n ≡ children (mark_of mark) (numbers_at (take (length s - at) (drop at s)) (numbers_of (mark_of mark)) 2)
        → x ≡ exprs_past s nest n q → x ≡ held_past s nest mark at
    unfolding held_past below_past
    held_went {q} h e en k = k ∙ ap (λ (n : ℕ). exprs_past s nest n q) (children_here mark en) ∙ went h (below_past s nest mark at) e

  -- The steps below each record

  abbrev extended_base : ℕ → Outcome ℕ
  extended_base = expr_past s (nest - 1) any_expression

  abbrev extended_object : ℕ → Outcome ℕ
  extended_object = expr_past s (nest - 1) (lone 0x4f42)

  abbrev local_binds : ℕ → Outcome ℕ
  local_binds q = over (number_at s (at + 2)) (bind_past s (nest - 1)) q

  abbrev function_params : ℕ → Outcome ℕ
  function_params q = over (number_at s (at + 6)) (held_past s (nest - 1) 0x5041) q

  abbrev call_values : ℕ → Outcome ℕ
  call_values q = exprs_past s (nest - 1) (1 + number_at s (at + 2)) q

  abbrev call_named : ℕ → Outcome ℕ
  call_named q = over (number_at s (at + 6)) (held_past s (nest - 1) 0x4e41) q

  abbrev index_parts : ℕ → Outcome ℕ
  index_parts q = over (number_at s (at + 2)) (held_past s (nest - 1) 0x5054) q

  abbrev array_items : ℕ → Outcome ℕ
  array_items q = choose (is_some (constants_at s (number_at s (at + 2)) q)) (λ _. ok (q + 6 * number_at s (at + 2))) (λ _. exprs_past s (nest - 1) (number_at s (at + 2)) q)

  abbrev object_values : ℕ → ℕ → Outcome ℕ
  object_values heads q = values_past s (nest - 1) (number_at s (at + 10)) heads q

  abbrev object_assertions : ℕ → ℕ → Outcome ℕ
  object_assertions heads q = over (number_at s (at + 6)) (held_past s (nest - 1) 0x4154) q >>= object_values heads

  abbrev object_locals : ℕ → ℕ → Outcome ℕ
  object_locals heads q = over (number_at s (at + 2)) (bind_past s (nest - 1)) q >>= object_assertions heads

  abbrev object_heads : ℕ → Outcome ℕ
  object_heads heads = over (number_at s (at + 10)) (held_past s (nest - 1) 0x4648) heads >>= object_locals heads

  -- Two steps below a record

  module _ {w : Result ℕ Refusal} {a : Outcome ℕ} (h : seen w ≡ a) (f g : ℕ → Outcome ℕ) where
    first_refused : {why : Refusal} → w ≡ Err why → seen w ≡ (a >>= λ q. f q >>= g)
    first_refused e = stopped h (λ q. f q >>= g) e

    module _ {q : ℕ} (e : w ≡ Ok q) {b : Result ℕ Refusal} (k : seen b ≡ f q) where
      second_refused : {why : Refusal} → b ≡ Err why → seen b ≡ (a >>= λ q. f q >>= g)
      second_refused d = stopped k g d ∙ went h (λ q. f q >>= g) e

      both_went : {x : Outcome ℕ} {t : ℕ} → b ≡ Ok t → x ≡ g t → x ≡ (a >>= λ q. f q >>= g)
      both_went d l = l ∙ went k g d ∙ went h (λ q. f q >>= g) e

  module _ {w : Result ℕ Refusal} where
    module _ (h : seen w ≡ opened_at s nest 0x4f58 at) where
      pub extended_refused : {why : Refusal} → w ≡ Err why → seen w ≡ extended_past s nest at
      unfolding extended_past
      extended_refused e = first_refused h extended_base extended_object e

      module _ {q : ℕ} (e : w ≡ Ok q) {b : Result ℕ Refusal} (k : seen b ≡ past (expr_at s (nest - 1) any_expression q)) where
        pub base_refused : {why : Refusal} → b ≡ Err why → seen b ≡ extended_past s nest at
        unfolding extended_past expr_past
        base_refused d = second_refused h extended_base extended_object e k d

        pub extended_went : {x : Outcome ℕ} {t : ℕ} → b ≡ Ok t → x ≡ expr_past s (nest - 1) (lone 0x4f42) t → x ≡ extended_past s nest at
        unfolding extended_past expr_past
        extended_went d l = both_went h extended_base extended_object e k d l

    module _ (h : seen w ≡ opened_at s nest 0x4c4f at) where
      pub local_refused : {why : Refusal} → w ≡ Err why → seen w ≡ local_past s nest at
      unfolding local_past
      local_refused e = first_refused h local_binds (expr_past s (nest - 1) any_expression) e

      module _ {q n : ℕ} (e : w ≡ Ok q) (en : n ≡ number_at s (at + 2)) {b : Result ℕ Refusal} (k : seen b ≡ over n (bind_past s (nest - 1)) q) where
        pub binds_refused : {why : Refusal} → b ≡ Err why → seen b ≡ local_past s nest at
        unfolding local_past
        binds_refused d = second_refused h local_binds (expr_past s (nest - 1) any_expression) e (counted (bind_past s (nest - 1)) _ k en) d

        pub local_went : {x : Outcome ℕ} {t : ℕ} → b ≡ Ok t → x ≡ past (expr_at s (nest - 1) any_expression t) → x ≡ local_past s nest at
        unfolding local_past expr_past
        local_went d l = both_went h local_binds (expr_past s (nest - 1) any_expression) e (counted (bind_past s (nest - 1)) _ k en) d l

    module _ (h : seen w ≡ opened_at s nest 0x464e at) where
      pub function_refused : {why : Refusal} → w ≡ Err why → seen w ≡ function_past s nest at
      unfolding function_past
      function_refused e = first_refused h function_params (expr_past s (nest - 1) any_expression) e

      module _ {q n : ℕ} (e : w ≡ Ok q) (en : n ≡ number_at s (at + 6)) {b : Result ℕ Refusal} (k : seen b ≡ over n (held_past s (nest - 1) 0x5041) q) where
        pub params_refused : {why : Refusal} → b ≡ Err why → seen b ≡ function_past s nest at
        unfolding function_past
        params_refused d = second_refused h function_params (expr_past s (nest - 1) any_expression) e (counted (held_past s (nest - 1) 0x5041) _ k en) d

        pub function_went : {x : Outcome ℕ} {t : ℕ} → b ≡ Ok t → x ≡ past (expr_at s (nest - 1) any_expression t) → x ≡ function_past s nest at
        unfolding function_past expr_past
        function_went d l = both_went h function_params (expr_past s (nest - 1) any_expression) e (counted (held_past s (nest - 1) 0x5041) _ k en) d l

    module _ (h : seen w ≡ opened_at s nest 0x4150 at) where
      pub call_refused : {why : Refusal} → w ≡ Err why → seen w ≡ call_past s nest at
      unfolding call_past
      call_refused e = first_refused h call_values call_named e

      module _ {q n : ℕ} (e : w ≡ Ok q) (en : n ≡ number_at s (at + 2)) {b : Result ℕ Refusal} (k : seen b ≡ exprs_past s (nest - 1) (1 + n) q) where
        pub values_refused : {why : Refusal} → b ≡ Err why → seen b ≡ call_past s nest at
        unfolding call_past
        values_refused d = second_refused h call_values call_named e (k ∙ ap (λ (n : ℕ). exprs_past s (nest - 1) (1 + n) q) en) d

        pub call_went : {x : Outcome ℕ} {t m : ℕ} → b ≡ Ok t → m ≡ number_at s (at + 6) → x ≡ over m (held_past s (nest - 1) 0x4e41) t → x ≡ call_past s nest at
        unfolding call_past
        call_went d em l = both_went h call_values call_named e (k ∙ ap (λ (n : ℕ). exprs_past s (nest - 1) (1 + n) q) en) d (counted (held_past s (nest - 1) 0x4e41) _ l em)

    module _ (h : seen w ≡ opened_at s nest 0x4958 at) where
      pub index_refused : {why : Refusal} → w ≡ Err why → seen w ≡ index_past s nest at
      unfolding index_past
      index_refused e = first_refused h (expr_past s (nest - 1) any_expression) index_parts e

      module _ {q : ℕ} (e : w ≡ Ok q) {b : Result ℕ Refusal} (k : seen b ≡ past (expr_at s (nest - 1) any_expression q)) where
        pub value_refused : {why : Refusal} → b ≡ Err why → seen b ≡ index_past s nest at
        unfolding index_past expr_past
        value_refused d = second_refused h (expr_past s (nest - 1) any_expression) index_parts e k d

        pub index_went : {x : Outcome ℕ} {t m : ℕ} → b ≡ Ok t → m ≡ number_at s (at + 2) → x ≡ over m (held_past s (nest - 1) 0x5054) t → x ≡ index_past s nest at
        unfolding index_past expr_past
        index_went d em l = both_went h (expr_past s (nest - 1) any_expression) index_parts e k d (counted (held_past s (nest - 1) 0x5054) _ l em)

    module _ (h : seen w ≡ opened_at s nest 0x4152 at) where
      pub array_refused : {why : Refusal} → w ≡ Err why → seen w ≡ array_past s nest at
      unfolding array_past
      array_refused e = stopped h array_items e

      module _ {q n : ℕ} {b : Bool} (e : w ≡ Ok q) (en : n ≡ number_at s (at + 2)) (k : b ≡ is_some (constants_at s n q)) where
        constant_as : is_some (constants_at s (number_at s (at + 2)) q) ≡ b
        constant_as = ap (λ (n : ℕ). is_some (constants_at s n q)) (sym en) ∙ sym k

        pub array_constant : b ≡ true → ok (q + 6 * n) ≡ array_past s nest at
        unfolding array_past choose
        array_constant d =
            let chose : ok (q + 6 * number_at s (at + 2)) ≡ array_items q = rw (constant_as ∙ d) in
            ap (λ (n : ℕ). ok (q + 6 * n)) en ∙ chose ∙ went h array_items e

        pub array_went : {x : Outcome ℕ} → b ≡ false → x ≡ exprs_past s (nest - 1) n q → x ≡ array_past s nest at
        unfolding array_past choose
        array_went d l =
            let chose : exprs_past s (nest - 1) (number_at s (at + 2)) q ≡ array_items q = rw (constant_as ∙ d) in
            l ∙ ap (λ (n : ℕ). exprs_past s (nest - 1) n q) en ∙ chose ∙ went h array_items e

    -- `OB`: four steps
    module _ (h : seen w ≡ opened_at s nest 0x4f42 at) where
      pub object_refused : {why : Refusal} → w ≡ Err why → seen w ≡ object_past s nest at
      unfolding object_past
      object_refused e = stopped h object_heads e

      module _ {q : ℕ} (e : w ≡ Ok q) where
        after_opened : object_heads q ≡ object_past s nest at
        unfolding object_past
        after_opened = went h object_heads e

        module _ {f : ℕ} (ef : f ≡ number_at s (at + 10)) {b : Result ℕ Refusal} (kb : seen b ≡ over f (held_past s (nest - 1) 0x4648) q) where
          pub heads_refused : {why : Refusal} → b ≡ Err why → seen b ≡ object_past s nest at
          heads_refused d = stopped (counted (held_past s (nest - 1) 0x4648) _ kb ef) (object_locals q) d ∙ after_opened

          module _ {u : ℕ} (eb : b ≡ Ok u) where
            after_heads : object_locals q u ≡ object_past s nest at
            after_heads = went (counted (held_past s (nest - 1) 0x4648) _ kb ef) (object_locals q) eb ∙ after_opened

            module _ {l : ℕ} (el : l ≡ number_at s (at + 2)) {c : Result ℕ Refusal} (kc : seen c ≡ over l (bind_past s (nest - 1)) u) where
              pub locals_refused : {why : Refusal} → c ≡ Err why → seen c ≡ object_past s nest at
              locals_refused d = stopped (counted (bind_past s (nest - 1)) _ kc el) (object_assertions q) d ∙ after_heads

              module _ {v : ℕ} (ec : c ≡ Ok v) where
                after_locals : object_assertions q v ≡ object_past s nest at
                after_locals = went (counted (bind_past s (nest - 1)) _ kc el) (object_assertions q) ec ∙ after_heads

                module _ {a : ℕ} (ea : a ≡ number_at s (at + 6)) {d : Result ℕ Refusal} (kd : seen d ≡ over a (held_past s (nest - 1) 0x4154) v) where
                  pub assertions_refused : {why : Refusal} → d ≡ Err why → seen d ≡ object_past s nest at
                  assertions_refused g = stopped (counted (held_past s (nest - 1) 0x4154) _ kd ea) (object_values q) g ∙ after_locals

                  pub object_went : {x : Outcome ℕ} {t : ℕ} → d ≡ Ok t → x ≡ values_past s (nest - 1) f q t → x ≡ object_past s nest at
                  object_went {t = t} g k =
                      k ∙ ap (λ (f : ℕ). values_past s (nest - 1) f q t) ef ∙ went (counted (held_past s (nest - 1) 0x4154) _ kd ea) (object_values q) g ∙ after_locals

  -- A bind

  pub bind_held : {m : ℕ} {x : Outcome ℕ} → m ≡ code_at s at → (m ≡ 0x4246 → ⊥) → x ≡ held_past s nest 0x4256 at → x ≡ bind_past s nest at
  bind_held e ne k = k ∙ sym (bind_value s nest at (λ f. ne (e ∙ f)))

  module _ {m : ℕ} {w : Result ℕ Refusal} (e : m ≡ code_at s at) (f : m ≡ 0x4246) (h : seen w ≡ expected_at s 0x4246 at) where
    pub bind_refused : {why : Refusal} → w ≡ Err why → seen w ≡ bind_past s nest at
    bind_refused d = stopped h (λ q. expr_past s nest (lone 0x464e) q) d ∙ sym (bind_function s nest at (sym e ∙ f))

    pub bind_went : {x : Outcome ℕ} {q : ℕ} → w ≡ Ok q → x ≡ expr_past s nest (lone 0x464e) q → x ≡ bind_past s nest at
    bind_went d k = k ∙ went h (λ q. expr_past s nest (lone 0x464e) q) d ∙ sym (bind_function s nest at (sym e ∙ f))

  -- A field's value

  pub value_any : (h : ℕ) {m : ℕ} {x : Outcome ℕ} → m ≡ number_at s (h + 22) → m ≡ 0 → x ≡ past (expr_at s nest any_expression at) → x ≡ value_past s nest h at
  unfolding value_past expr_past choose is_set
  value_any h e z k = k ∙ rw (sym e ∙ z)

  pub value_method : (h : ℕ) {m : ℕ} {x : Outcome ℕ} → m ≡ number_at s (h + 22) → (m ≡ 0 → ⊥) → x ≡ expr_past s nest (lone 0x464e) at → x ≡ value_past s nest h at
  unfolding value_past choose lone code
  value_method h e nz k = k ∙ rw (set_of (λ z. nz (e ∙ z)))

-- Turns over values, with the heads beside them

pub record ValuesTurn (s : List ℕ) (nest : ℕ) (w : Outcome ℕ) (n i head p : ℕ) : Type 0 where
  pub same : values_past s nest (n - i) head p ≡ w
  pub heads : Ends (over (n - i) (held_past s nest 0x4648) head)
  pub turns : i ≤ n

module _ (s : List ℕ) (nest : ℕ) where
  pub values_begin : (n head p : ℕ) → Ends (over n (held_past s nest 0x4648) head) → ValuesTurn s nest (values_past s nest n head p) n 0 head p
  values_begin n head p h = let e : n - 0 ≡ n = omega arith in record { same = rw e; heads = rw e h; turns = omega arith }

  module _ {w : Outcome ℕ} {n i head p : ℕ} (T : ValuesTurn s nest w n i head p) where
    pub values_end : n ≤ i → ok p ≡ w
    unfolding values_past
    values_end le = let e : n - i ≡ 0 = omega arith in (rw e at T.same)

    module _ (lt : i < n) where
      -- the head was read, and those after it
      head_read : Both (held_past s nest 0x4648 head) (λ q. over (n - (i + 1)) (held_past s nest 0x4648) q) T.heads.place
      unfolding over
      head_read =
          let e : n - i ≡ suc (n - (i + 1)) = omega arith in
          bind_got (held_past s nest 0x4648 head) (λ q. over (n - (i + 1)) (held_past s nest 0x4648) q) (rw e at T.heads.there)

      pub head_here : head + 26 ≤ length s
      head_here = head_fits s nest head head_read.first

      values_more : (value_past s nest head p >>= λ q. values_past s nest (n - (i + 1)) head_read.middle q) ≡ w
      unfolding values_past ◌>>=◌
      values_more =
          let e : n - i ≡ suc (n - (i + 1)) = omega arith in
          (rw (e, head_read.first) at T.same)

      pub values_stop : {r : Result ℕ Refusal} {why : Refusal} → seen r ≡ value_past s nest head p → r ≡ Err why → seen r ≡ w
      unfolding ◌>>=◌
      values_stop h e = ap seen e ∙ subst (λ (x : Outcome ℕ). (x >>= λ q. values_past s nest (n - (i + 1)) head_read.middle q) ≡ w) (sym (refused_seen h e)) values_more

      pub values_next : {r : Result ℕ Refusal} {q next : ℕ} → seen r ≡ value_past s nest head p → r ≡ Ok q → Behind s head next → ValuesTurn s nest w n (i + 1) next q
      unfolding ◌>>=◌
      values_next {q = q} {next = next} h e b =
          let there : next ≡ head_read.middle = b nest head_read.middle head_read.first in
          record {
            same = rw there (subst (λ (x : Outcome ℕ). (x >>= λ q. values_past s nest (n - (i + 1)) head_read.middle q) ≡ w) (sym (past_seen h e)) values_more);
            heads = rw there (record { place = T.heads.place; there = head_read.second });
            turns = omega arith;
          }
