use Rattle.text.proofs.+decimal.Given as goal

-- proposed from what the function passes where it calls itself
abbrev pub decreases-decimal : goal.decreases-decimal
decreases-decimal l = l.value
