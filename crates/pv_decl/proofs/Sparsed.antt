-- What is found at places, by numbers among what is found at all.
use Rattle.std.proofs.Common.{◌≡◌, ◌<◌, ◌≤◌, ◌-◌, ℕ, zero, suc, List, [], ◌∷◌, ◌++◌, length, map, take, replicate, Option, Some, None, get_or, sym, ap, subst, ◌∙◌, refl, arith}
use Rattle.std.proofs.lemmas.List.{length-append, length-map, map_push, get_or-map, take_all}
use Rattle.std.proofs.lemmas.Option.{slice_get_read}
use Rattle.pv_decl.specs.Sparse.{found_in, AreFound}

module _ {T : Type 0} where
  -- ---- what one more value leaves as it was

  number_stays : (values : List T) (v : T) (n : ℕ) → n ≤ length values → found_in (values ++ v ∷ []) n ≡ found_in values n
  number_stays values v zero le = refl
  number_stays [] v (suc i) le = absurd (omega (arith, le))
  number_stays (x ∷ xs) v (suc zero) le = refl
  number_stays (x ∷ xs) v (suc (suc i)) le = number_stays xs v (suc i) (omega (arith, le))

  pub number_last : (values : List T) (v : T) → found_in (values ++ v ∷ []) (suc (length values)) ≡ Some v
  number_last [] v = refl
  number_last (x ∷ xs) v = number_last xs v

  numbers_stay : (values : List T) (v : T) (ns : List ℕ) → AreFound values ns → map (found_in (values ++ v ∷ [])) ns ≡ map (found_in values) ns
  numbers_stay values v [] h = refl
  numbers_stay values v (n ∷ ns) h =
      ap (λ (o : Option T). o ∷ map (found_in (values ++ v ∷ [])) ns) (number_stays values v n h.0)
      ∙ ap (λ (l : List (Option T)). found_in values n ∷ l) (numbers_stay values v ns h.1)

  are_more : (values : List T) (v : T) (ns : List ℕ) → AreFound values ns → AreFound (values ++ v ∷ []) ns
  are_more values v [] h = tt
  are_more values v (n ∷ ns) h = (let here = h.0 in omega (arith, here, length-append values (v ∷ [])), are_more values v ns h.1)

  are_push : (values : List T) (ns : List ℕ) (n : ℕ) → AreFound values ns → n ≤ length values → AreFound values (ns ++ n ∷ [])
  are_push values [] n h le = (le, tt)
  are_push values (m ∷ ns) n h le = (h.0, are_push values ns n h.1 le)

  -- places at which nothing is found

  nothing_everywhere : (values : List T) (k : ℕ) → map (found_in values) (replicate k zero) ≡ replicate k None
  nothing_everywhere values zero = refl
  nothing_everywhere values (suc k) = ap (λ (l : List (Option T)). None ∷ l) (nothing_everywhere values k)

  nothing_behind : (values : List T) (ns : List ℕ) (k : ℕ) → map (found_in values) (ns ++ replicate k zero) ≡ map (found_in values) ns ++ replicate k None
  nothing_behind values [] k = nothing_everywhere values k
  nothing_behind values (n ∷ ns) k = ap (λ (l : List (Option T)). found_in values n ∷ l) (nothing_behind values ns k)

  are_nothing : (values : List T) (k : ℕ) → AreFound values (replicate k zero)
  are_nothing values zero = tt
  are_nothing values (suc k) = (omega arith, are_nothing values k)

  are_filled : (values : List T) (ns : List ℕ) (k : ℕ) → AreFound values ns → AreFound values (ns ++ replicate k zero)
  are_filled values [] k h = are_nothing values k
  are_filled values (n ∷ ns) k h = (h.0, are_filled values ns k h.1)

  found_at : (values : List T) (ns : List ℕ) (i d : ℕ) → AreFound values ns → i < length ns → get_or ns i d ≤ length values
  found_at values [] i d h lt = absurd (omega (arith, lt))
  found_at values (n ∷ ns) zero d h lt = h.0
  found_at values (n ∷ ns) (suc i) d h lt = found_at values ns i d h.1 (omega (arith, lt))

  module _ (values : List T) (ns : List ℕ) (now : List (Option T)) (seen : map (found_in values) ns ≡ now) where
    pub places_count : length ns ≡ length now
    places_count = sym (length-map ns (found_in values)) ∙ ap (λ (l : List (Option T)). length l) seen

    -- ---- one place more

    module _ (is : AreFound values ns) (new : List ℕ) where
      pub nothing_added : new ≡ ns ++ zero ∷ [] → map (found_in values) new ≡ now ++ (None ∷ [])
      nothing_added pushed = ap (map (found_in values)) pushed ∙ map_push (found_in values) ns zero ∙ ap (λ (l : List (Option T)). l ++ (None ∷ [])) seen

      pub nothing_found : new ≡ ns ++ zero ∷ [] → AreFound values new
      nothing_found pushed = subst (AreFound values) (sym pushed) (are_push values ns zero is (omega arith))

      module _ (count len : ℕ) (resized : new ≡ take count ns ++ replicate (count - len) zero) (known : len ≡ length ns) (le : length now ≤ count) where
        grown : new ≡ ns ++ replicate (count - length now) zero
        grown =
            resized
            ∙ ap (λ (k : ℕ). take count ns ++ replicate (count - k) zero) (known ∙ places_count)
            ∙ ap (λ (l : List ℕ). l ++ replicate (count - length now) zero) (take_all count ns (omega (arith, le, places_count)))

        pub places_filled : map (found_in values) new ≡ now ++ replicate (count - length now) None
        places_filled =
            ap (map (found_in values)) grown
            ∙ nothing_behind values ns (count - length now)
            ∙ ap (λ (l : List (Option T)). l ++ replicate (count - length now) None) seen

        pub places_found : AreFound values new
        places_found = subst (AreFound values) (sym grown) (are_filled values ns (count - length now) is)

      module _ (v : T) (kept : List T) (more : kept ≡ values ++ v ∷ []) (n : ℕ) (last : n ≡ suc (length values)) (pushed : new ≡ ns ++ n ∷ []) where
        pub value_added : map (found_in kept) new ≡ now ++ (Some v ∷ [])
        value_added =
            ap (map (found_in kept)) pushed
            ∙ map_push (found_in kept) ns n
            ∙ ap (λ (l : List (Option T)). l ++ (found_in kept n ∷ [])) (ap (λ (xs : List T). map (found_in xs) ns) more ∙ numbers_stay values v ns is ∙ seen)
            ∙ ap (λ (o : Option T). now ++ (o ∷ [])) (ap (λ (xs : List T). found_in xs n) more ∙ ap (found_in (values ++ v ∷ [])) last ∙ number_last values v)

        pub value_found : AreFound kept new
        value_found =
            subst (AreFound kept) (sym pushed)
            (are_push kept ns n (subst (λ (xs : List T). AreFound xs ns) (sym more) (are_more values v ns is)) (omega (arith, last, ap length more, length-append values (v ∷ []))))

        -- the value alone is kept where memory runs out behind it
        pub still_found : AreFound kept ns
        still_found = subst (λ (xs : List T). AreFound xs ns) (sym more) (are_more values v ns is)

    -- ---- a place that is read

    module _ (i : ℕ) (here : i < length now) (n : ℕ) (read : n ≡ get_or ns i n) where
      among : i < length ns
      among = omega (arith, here, places_count)

      pub place_read : found_in values n ≡ get_or now i None
      place_read =
          ap (found_in values) read
          ∙ sym (get_or-map (found_in values) ns i n None among)
          ∙ ap (λ (l : List (Option T)). get_or l i None) seen

      pub number_within : AreFound values ns → n ≤ length values
      number_within is = subst (λ (m : ℕ). m ≤ length values) (sym read) (found_at values ns i n is among)

  -- the value of a number
  pub value_read : (values : List T) (n : ℕ) (v : T) → 0 < n → n ≤ length values → v ≡ get_or values (n - 1) v → Some v ≡ found_in values n
  value_read values zero v some le read = absurd (omega (arith, some))
  value_read values (suc m) v some le read =
      let same : suc m - 1 ≡ m = omega arith in
      sym (slice_get_read values (length values) m v refl (omega (arith, le)) (read ∙ ap (λ (k : ℕ). get_or values k v) same))
