-- The table of the keywords.
use Rattle.std.specs.Prelude.{ℕ, List, [], ◌∷◌, codes, Option, Some, None, if◌then◌else◌}
use Rattle.std.specs.Str.{bytes_eq}
use Rattle.dl_lexer.specs.declared.token.Keyword.{Keyword}
use Rattle.dl_lexer.specs.declared.token.Keyword.TheVariants.{Agg, Port, Claim, Claims, Loss, Prem, Premium, At, Lr, Dfreq, Dsev, Sev, Dhistogram, Xps, Xs, Inf, Occurrence, Aggregate, Net, Of, Ceded, To, And, So, Po, Fixed, Poisson, Bernoulli, Binomial, Mixed, Gamma, Wts, Lognorm, Expon, Pareto, Weibull, Norm, Uniform, Beta, Chistogram, Note, Geometric, Zt, Zm, Common}

-- the bytes that a keyword is written with
abbrev pub spelling : Keyword → List ℕ
spelling Agg = codes "agg"
spelling Port = codes "port"
spelling Claim = codes "claim"
spelling Claims = codes "claims"
spelling Loss = codes "loss"
spelling Prem = codes "prem"
spelling Premium = codes "premium"
spelling At = codes "at"
spelling Lr = codes "lr"
spelling Dfreq = codes "dfreq"
spelling Dsev = codes "dsev"
spelling Sev = codes "sev"
spelling Dhistogram = codes "dhistogram"
spelling Xps = codes "xps"
spelling Xs = codes "xs"
spelling Inf = codes "inf"
spelling Occurrence = codes "occurrence"
spelling Aggregate = codes "aggregate"
spelling Net = codes "net"
spelling Of = codes "of"
spelling Ceded = codes "ceded"
spelling To = codes "to"
spelling And = codes "and"
spelling So = codes "so"
spelling Po = codes "po"
spelling Fixed = codes "fixed"
spelling Poisson = codes "poisson"
spelling Bernoulli = codes "bernoulli"
spelling Binomial = codes "binomial"
spelling Mixed = codes "mixed"
spelling Gamma = codes "gamma"
spelling Wts = codes "wts"
spelling Lognorm = codes "lognorm"
spelling Expon = codes "expon"
spelling Pareto = codes "pareto"
spelling Weibull = codes "weibull"
spelling Norm = codes "norm"
spelling Uniform = codes "uniform"
spelling Beta = codes "beta"
spelling Chistogram = codes "chistogram"
spelling Note = codes "note"
spelling Geometric = codes "geometric"
spelling Zt = codes "zt"
spelling Zm = codes "zm"
spelling Common = codes "common"

-- the first of these keywords that is spelled so
unfoldable pub first_spelled : List Keyword → List ℕ → Option Keyword
first_spelled [] bytes = None
first_spelled (k ∷ ks) bytes =
    if bytes_eq (spelling k) bytes then Some k else first_spelled ks bytes
