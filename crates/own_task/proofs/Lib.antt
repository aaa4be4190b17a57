mod ConsumeLemmas
